-- One count written, and what a monitorenter or a monitorexit says of it.
use mathlib.Core.Path.{◌≡◌, refl}
use mathlib.Core.Bool.{cond, ◌&&◌}
use mathlib.Core.List.{List}
use Prim.Native.Nat.{ℕ, ◌+◌, ◌-◌, ◌*◌, ◌<◌}
use lib.Dec.{eqb}
use lib.ListN.{length, set}
use lib.Seq.{get_or-set_same, get_or-set_other}
use native.Mathlib.Omega.{arith}
use native.Mathlib.Decide.{ℕ_discrete}
use borrow.Author.Tests.{eq-eqb, ne_eqb}
use Rattle.ground.proofs.Bools.{and-false}
use Rattle.state.specs.State.{count_of}

-- thread i's of the object p
module _ (counts : List ℕ) (n : length counts ≡ 256) (i p : ℕ) (li : i < 8) (lp : p < 32) where
  other-count : (m t o : ℕ) → t < 8 → o < 32 → (t ≡ i → o ≡ p → ⊥) → count_of (set counts (i * 32 + p) m) t o ≡ count_of counts t o
  other-count m t o l k q = get_or-set_other counts (i * 32 + p) (t * 32 + o) m 0 (λ e. q (omega arith) (omega arith))

  same_count : (m : ℕ) → count_of (set counts (i * 32 + p) m) i p ≡ m
  same_count m = get_or-set_same counts (i * 32 + p) m 0 (omega arith)

  -- one more
  pub count-entered : (t o : ℕ) → t < 8 → o < 32
      → cond (eqb i t && eqb p o) 1 0 + count_of counts t o ≡ 0 + count_of (set counts (i * 32 + p) (count_of counts i p + 1)) t o
  count-entered t o l k = go (ℕ_discrete t i) (ℕ_discrete o p)
    where
      go : Dec (t ≡ i) → Dec (o ≡ p) → cond (eqb i t && eqb p o) 1 0 + count_of counts t o ≡ 0 + count_of (set counts (i * 32 + p) (count_of counts i p + 1)) t o
      go (yes d) (yes e) = rw (d, e, eq-eqb i i refl, eq-eqb p p refl, same_count (count_of counts i p + 1)) (omega arith)
      go (yes d) (no e) = rw (ne_eqb p o (λ q. omega arith), and-false (eqb i t), other-count (count_of counts i p + 1) t o l k (λ x y. e y)) (omega arith)
      go (no d) e = rw (ne_eqb i t (λ q. omega arith), other-count (count_of counts i p + 1) t o l k (λ x y. d x)) (omega arith)

  -- one less
  pub count-exited : 0 < count_of counts i p → (t o : ℕ) → t < 8 → o < 32
      → 0 + count_of counts t o ≡ cond (eqb i t && eqb p o) 1 0 + count_of (set counts (i * 32 + p) (count_of counts i p - 1)) t o
  count-exited z t o l k = go (ℕ_discrete t i) (ℕ_discrete o p)
    where
      go : Dec (t ≡ i) → Dec (o ≡ p) → 0 + count_of counts t o ≡ cond (eqb i t && eqb p o) 1 0 + count_of (set counts (i * 32 + p) (count_of counts i p - 1)) t o
      go (yes d) (yes e) = rw (d, e, eq-eqb i i refl, eq-eqb p p refl, same_count (count_of counts i p - 1)) (omega arith)
      go (yes d) (no e) = rw (ne_eqb p o (λ q. omega arith), and-false (eqb i t), other-count (count_of counts i p - 1) t o l k (λ x y. e y)) (omega arith)
      go (no d) e = rw (ne_eqb i t (λ q. omega arith), other-count (count_of counts i p - 1) t o l k (λ x y. d x)) (omega arith)
