-- Two bytes written one after the other: what each byte is then, and how the room falls.
use mathlib.Core.List.{List}
use mathlib.Core.Path.{◌≡◌, ◌∙◌}
use mathlib.Core.Logic.{◌⊎◌, inl, inr}
use Prim.Native.Nat.{ℕ, ◌+◌, ◌-◌, ◌≤◌, ◌<◌}
use native.Mathlib.Omega.{arith}
use native.Mathlib.Decide.{ℕ_discrete}
use lib.ListN.{length, set, length-set}
use lib.Seq.{get_or-set_same, get_or-set_other}
use Rattle.ground.specs.Bytes.{at}
use Rattle.ground.proofs.Sums.{sum_one}
use Rattle.passes.specs.Passes.{room}

module _ (x : List ℕ) (p v w : ℕ) (h : p + 3 < length x) where
  abbrev pub two : List ℕ
  two = set (set x (p + 2) v) (p + 3) w

  pub two-long : length two ≡ length x
  two-long = length-set (set x (p + 2) v) (p + 3) w ∙ length-set x (p + 2) v

  pub two-end : at two (p + 3) ≡ w
  two-end = get_or-set_same (set x (p + 2) v) (p + 3) w 0 (rw (length-set x (p + 2) v) h)

  pub two-dip : at two (p + 2) ≡ v
  two-dip = get_or-set_other (set x (p + 2) v) (p + 3) (p + 2) w 0 (λ e. omega arith) ∙ get_or-set_same x (p + 2) v 0 (omega arith)

  pub two-other : (r : ℕ) → (r ≡ p + 2 → ⊥) → (r ≡ p + 3 → ⊥) → at two r ≡ at x r
  two-other r f g = get_or-set_other (set x (p + 2) v) (p + 3) r w 0 g ∙ get_or-set_other x (p + 2) r v 0 f

  -- a fact of every byte
  pub by_byte : (B : ℕ → ℕ → Type 0) → B (p + 2) v → B (p + 3) w → ((r : ℕ) → (r ≡ p + 2 → ⊥) → (r ≡ p + 3 → ⊥) → B r (at x r)) → (r : ℕ) → B r (at two r)
  by_byte B d e o r = go (ℕ_discrete r (p + 2)) (ℕ_discrete r (p + 3))
    where
      go : Dec (r ≡ p + 2) → Dec (r ≡ p + 3) → B r (at two r)
      go (yes f) g = rw (f, two-dip) d
      go (no f) (yes g) = rw (g, two-end) e
      go (no f) (no g) = rw (two-other r f g) (o r f g)

-- a byte that rises
pub room-set : (x : List ℕ) (r v : ℕ) → r < length x → at x r ≤ v → room (set x r v) ≤ room x
unfolding room
room-set x r v h k =
    rw (length-set x r v)
    (let s = sum_one (length x) (λ p. 255 - at (set x r v) p) (λ p. 255 - at x p) r 0 0 h (λ j l m. rw (get_or-set_other x r j v 0 m) (omega arith)) (rw (get_or-set_same x r v 0 h) (omega arith)) in omega arith)

pub room-less : (x : List ℕ) (r v : ℕ) → r < length x → at x r < v → v ≤ 255 → room (set x r v) < room x
unfolding room
room-less x r v h k m =
    rw (length-set x r v)
    (let s = sum_one (length x) (λ p. 255 - at (set x r v) p) (λ p. 255 - at x p) r 1 0 h (λ j l m. rw (get_or-set_other x r j v 0 m) (omega arith)) (rw (get_or-set_same x r v 0 h) (omega arith)) in omega arith)

module _ (x : List ℕ) (p v w : ℕ) (h : p + 3 < length x) (lv : at x (p + 2) ≤ v) (lw : at x (p + 3) ≤ w) where
  kept-end : at (set x (p + 2) v) (p + 3) ≡ at x (p + 3)
  kept-end = get_or-set_other x (p + 2) (p + 3) v 0 (λ e. omega arith)

  far : p + 3 < length (set x (p + 2) v)
  far = rw (length-set x (p + 2) v) h

  pub two-room : room (two x p v w h) ≤ room x
  two-room =
      let a = room-set (set x (p + 2) v) (p + 3) w far (rw kept-end lw) in
      let b = room-set x (p + 2) v (omega arith) lv in
      omega arith

  pub two-less : v ≤ 255 → w ≤ 255 → (at x (p + 2) < v) ⊎ (at x (p + 3) < w) → room (two x p v w h) < room x
  two-less mv mw (inl k) =
      let a = room-set (set x (p + 2) v) (p + 3) w far (rw kept-end lw) in
      let b = room-less x (p + 2) v (omega arith) k mv in
      omega arith
  two-less mv mw (inr k) =
      let a = room-less (set x (p + 2) v) (p + 3) w far (rw kept-end k) mw in
      let b = room-set x (p + 2) v (omega arith) lv in
      omega arith
