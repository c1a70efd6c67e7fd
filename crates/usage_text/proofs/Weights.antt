-- The reader's two numbers are appendix A's: Min is −dip, and Fin is rise − dip.
use mathlib.Core.Path.{◌≡◌}
use mathlib.Core.Logic.{⊎_elim}
use Prim.Native.Nat.{ℕ, ◌+◌, ◌-◌, ◌≤◌}
use native.Mathlib.Omega.{arith}
use lib.IntN.{ℤ, pos, negsuc, nat_abs, neg_ℤ, ◌+ℤ◌, ◌-ℤ◌}
use Rattle.std.specs.Prelude.{max}
use Rattle.usages.specs.Usage.{Usage, done, lock, unlock, either, both}
use Rattle.usages.specs.Counts.{least, most, min_of, fin_of}
use Rattle.usages.proofs.Whole.{up, down, up-eq, sum-up, one_more, one_less, zero-up, zero-down, pos-up, minus-up, least-is, most-is}
use Rattle.usage_text.specs.Weights.{after_lock, either_of, weight_of}
use Rattle.usage_text.specs.Answer.{dip_of}

-- ---- Min
pub min-dip : (u : Usage) → up (min_of u) + (weight_of u).dip ≡ down (min_of u)
unfolding min_of weight_of after_lock either_of
min-dip done = omega (arith, zero-up, zero-down)
min-dip (lock u) = go (min-dip u)
  where
    go : up (min_of u) + (weight_of u).dip ≡ down (min_of u)
        → up (least (pos 0) (min_of u +ℤ pos 1)) + ((weight_of u).dip - 1) ≡ down (least (pos 0) (min_of u +ℤ pos 1))
    go h =
        ⊎_elim
        (λ k. rw k.0 (omega (arith, k.1, h, one_more (min_of u), zero-up, zero-down)))
        (λ k. rw k.0 (omega (arith, k.1, h, one_more (min_of u), zero-up, zero-down)))
        (least-is (pos 0) (min_of u +ℤ pos 1))
min-dip (unlock u) = omega (arith, min-dip u, one_less (min_of u))
min-dip (either u v) = go (min-dip u) (min-dip v)
  where
    go : up (min_of u) + (weight_of u).dip ≡ down (min_of u) → up (min_of v) + (weight_of v).dip ≡ down (min_of v)
        → up (least (min_of u) (min_of v)) + max (weight_of u).dip (weight_of v).dip ≡ down (least (min_of u) (min_of v))
    go h k =
        ⊎_elim
        (λ p. rw p.0 (omega (arith, h, k, p.1)))
        (λ p. rw p.0 (omega (arith, h, k, p.1)))
        (least-is (min_of u) (min_of v))
min-dip (both u v) = omega (arith, min-dip u, min-dip v, sum-up (min_of u) (min_of v))

-- ---- Fin
-- the greater end, above the greater dip
module _ (a b : ℤ) (d r e s : ℕ) (p : up a + d ≡ down a + r) (q : up b + e ≡ down b + s) where
  higher : up (most a b) + max d e ≡ down (most a b) + max (r + (e - d)) (s + (d - e))
  higher =
      ⊎_elim
      (λ m. rw m.0 (omega (arith, p, q, m.1)))
      (λ m. rw m.0 (omega (arith, p, q, m.1)))
      (most-is a b)

fin-rise : (u : Usage) → up (fin_of u) + (weight_of u).dip ≡ down (fin_of u) + (weight_of u).rise
unfolding fin_of weight_of after_lock either_of
fin-rise done = omega (arith, zero-up, zero-down)
fin-rise (lock u) = omega (arith, fin-rise u, one_more (fin_of u))
fin-rise (unlock u) = omega (arith, fin-rise u, one_less (fin_of u))
fin-rise (either u v) =
    higher (fin_of u) (fin_of v) (weight_of u).dip (weight_of u).rise (weight_of v).dip (weight_of v).rise (fin-rise u) (fin-rise v)
fin-rise (both u v) = omega (arith, fin-rise u, fin-rise v, sum-up (fin_of u) (fin_of v))

-- ---- as the answer has them
below-zero : (z : ℤ) (n : ℕ) → up z + n ≡ down z → nat_abs z ≡ n
unfolding up down
below-zero (pos m) n e = omega arith
below-zero (negsuc m) n e = omega arith

pub dip-is : (u : Usage) → dip_of u ≡ (weight_of u).dip
unfolding dip_of
dip-is u = below-zero (min_of u) (weight_of u).dip (min-dip u)

pub end_is : (u : Usage) → fin_of u ≡ pos (weight_of u).rise -ℤ pos (weight_of u).dip
end_is u =
    up-eq (fin_of u) (pos (weight_of u).rise -ℤ pos (weight_of u).dip)
    (omega (arith, fin-rise u, sum-up (pos (weight_of u).rise) (neg_ℤ (pos (weight_of u).dip)), minus-up (weight_of u).dip, pos-up (weight_of u).rise))

-- how far the end is from 0
far : (z : ℤ) (d r n : ℕ) → up z + d ≡ down z + r → nat_abs z ≤ n → (r ≤ d + n) × (d ≤ r + n)
unfolding up down
far (pos m) d r n e l = (omega arith, omega arith)
far (negsuc m) d r n e l = (omega arith, omega arith)

near : (z : ℤ) (d r n : ℕ) → up z + d ≡ down z + r → r ≤ d + n → d ≤ r + n → nat_abs z ≤ n
unfolding up down
near (pos m) d r n e l k = omega arith
near (negsuc m) d r n e l k = omega arith

pub end-far : (u : Usage) (n : ℕ) → nat_abs (fin_of u) ≤ n → ((weight_of u).rise ≤ (weight_of u).dip + n) × ((weight_of u).dip ≤ (weight_of u).rise + n)
end-far u n l = far (fin_of u) (weight_of u).dip (weight_of u).rise n (fin-rise u) l

pub end-near : (u : Usage) (n : ℕ) → (weight_of u).rise ≤ (weight_of u).dip + n → (weight_of u).dip ≤ (weight_of u).rise + n → nat_abs (fin_of u) ≤ n
end-near u n l k = near (fin_of u) (weight_of u).dip (weight_of u).rise n (fin-rise u) l k
