-- Which pairs are a usage's.
use mathlib.Core.Path.{◌≡◌}
use mathlib.Core.Logic.{⊎_elim}
use Prim.Native.Nat.{ℕ, zero, suc, ◌+◌}
use native.Mathlib.Omega.{arith}
use lib.IntN.{pos, neg_ℤ, ◌+ℤ◌, ◌-ℤ◌}
use Rattle.usages.specs.Counts.{least, min_of, fin_of}
use Rattle.usages.specs.Pairs.{falling, FallingHas, MinUnderFin}
use Rattle.usages.proofs.Whole.{up, down, up-eq, sum-up, pos-up, minus-up, one_more, one_less, least-is, zero-up, zero-down}
use Rattle.usages.proofs.Reliability.{min-least, fin-greatest}

falling-min : (d r : ℕ) → up (min_of (falling d r)) + d ≡ down (min_of (falling d r))
unfolding falling min_of
falling-min zero zero = omega (arith, zero-up, zero-down)
falling-min zero (suc r) = go (falling-min zero r)
  where
    go : up (min_of (falling zero r)) + 0 ≡ down (min_of (falling zero r))
        → up (least (pos 0) (min_of (falling zero r) +ℤ pos 1)) + 0 ≡ down (least (pos 0) (min_of (falling zero r) +ℤ pos 1))
    go h =
        ⊎_elim
        (λ k. rw k.0 (omega (arith, zero-up, zero-down)))
        (λ k. rw k.0 (omega (arith, k.1, h, one_more (min_of (falling zero r)), zero-up, zero-down)))
        (least-is (pos 0) (min_of (falling zero r) +ℤ pos 1))
falling-min (suc d) r = omega (arith, falling-min d r, one_less (min_of (falling d r)))

falling-fin : (d r : ℕ) → up (fin_of (falling d r)) + d ≡ r + down (fin_of (falling d r))
unfolding falling fin_of
falling-fin zero zero = omega (arith, zero-up, zero-down)
falling-fin zero (suc r) = omega (arith, falling-fin zero r, one_more (fin_of (falling zero r)))
falling-fin (suc d) r = omega (arith, falling-fin d r, one_less (fin_of (falling d r)))

-- THEOREM
pub falling-has : FallingHas
falling-has d r = (
  up-eq (min_of (falling d r)) (neg_ℤ (pos d)) (omega (arith, falling-min d r, minus-up d)),
  up-eq (fin_of (falling d r)) (pos r -ℤ pos d) (omega (arith, falling-fin d r, sum-up (pos r) (neg_ℤ (pos d)), pos-up r, minus-up d)),
)

-- THEOREM
pub min-under-fin : MinUnderFin
min-under-fin u = let x = (fin-greatest u).reached in (min-least u).lowest x.0 (fin_of u) x.2
