-- The index: a place put into it leaves it one, and first places everywhere are one.
use mathlib.Core.Path.{◌≡◌, refl}
use mathlib.Core.List.{List}
use Prim.Native.Nat.{ℕ, zero, suc, ◌<◌}
use native.Mathlib.Decide.{ℕ_discrete}
use lib.ListN.{length, set, replicate, get_or}
use Rattle.std.proofs.lemmas.List.{get_or-set_same, get_or-set_other}
use Rattle.offsets.specs.declared.places.Place.{Place}
use Rattle.offsets.specs.Index.{Stands, Indexed, first}
use Rattle.offsets.proofs.Turns.{stands-first}

module _ (code : List ℕ) where
  pub set-indexed : {index : List Place} (b : ℕ) (x : Place) → Indexed code index → Stands code x.at x.count → b < length index → Indexed code (set index b x)
  set-indexed {index} b x h s l = record { each = λ i. one i (ℕ_discrete i b) }
    where
      one : (i : ℕ) → Dec (i ≡ b) → Stands code (get_or (set index b x) i first).at (get_or (set index b x) i first).count
      one i (yes e) = rw (e, get_or-set_same index b x first l) s
      one i (no d) = rw (get_or-set_other index b i x first d) (h.each i)

  first_at : (n i : ℕ) → get_or (replicate n first) i first ≡ first
  first_at zero i = refl
  first_at (suc n) zero = refl
  first_at (suc n) (suc i) = first_at n i

  pub first-indexed : (n : ℕ) → Indexed code (replicate n first)
  first-indexed n = record { each = λ b. rw (first_at n b) (stands-first code) }
