-- The machine's integers: the code's test of the bits is the definition's test of the number, one more fits where it does not wrap, and -1 less
-- a number is what stands between a negative number and its bits.
use mathlib.Core.Path.{◌≡◌, refl, ap}
use mathlib.Core.Bool.{Bool, true, false, cond}
use Prim.Native.Nat.{ℕ, zero, suc, ◌-◌, ◌<◌, ◌^◌}
use native.Mathlib.Omega.{arith}
use lib.Dec.{ltb, eqb}
use lib.IntN.{ℤ, pos, negsuc, ◌+ℤ◌, ◌-ℤ◌}
use lib.Signed.{mag, lt_z}
use borrow.Author.Tests.{lt-ltb, le-ltb, ltb-true, ne_eqb, eqb-false}
use mir.Syntax.{w32}
use mir.Val.{SFits, of_z}
use Rattle.values.specs.Values.{is_pos, number_of, bits_of}

pub bits_is : (m : ℕ) → m < 2 ^ 31 → (z : ℤ) → SFits w32 z → eqb (of_z w32 z) m ≡ is_pos m z
bits_is m lm (pos n) s = refl
bits_is m lm (negsuc n) s = let h : n < 2 ^ 31 = s.sfits in ne_eqb _ _ (λ (e : 2 ^ 32 - suc n ≡ m). omega arith)

inc-neg : (n : ℕ) → n < 2 ^ 31 → SFits w32 (negsuc n +ℤ pos 1)
inc-neg zero h = record { sfits = omega arith }
inc-neg (suc n) h = rw (lt-ltb 1 (suc (suc n)) (omega arith)) (record { sfits = omega arith })

pub inc-fits : (z : ℤ) → SFits w32 z → is_pos 2147483647 z ≡ false → SFits w32 (z +ℤ pos 1)
inc-fits (pos n) s e =
    let h : n < 2 ^ 31 = s.sfits in let d : n ≡ 2147483647 → ⊥ = eqb-false _ _ e in record { sfits = omega arith }
inc-fits (negsuc n) s e = inc-neg n s.sfits

pub flip-neg : (z : ℤ) → lt_z z (pos 0) ≡ true → negsuc 0 -ℤ z ≡ pos (mag z)
flip-neg (pos n) e = let h : n < 0 = ltb-true n 0 e in absurd (omega arith)
flip-neg (negsuc n) e = let h : suc n - 1 ≡ n = omega arith in rw (le-ltb (suc n) 1 (omega arith), h)

pub bits-neg : (z : ℤ) → lt_z z (pos 0) ≡ true → bits_of z ≡ 4294967295 - mag z
bits-neg (pos n) e = let h : n < 0 = ltb-true n 0 e in absurd (omega arith)
bits-neg (negsuc n) e = refl

pub is_pos_lem : (z : ℤ) → lt_z z (pos 0) ≡ false → z ≡ pos (bits_of z)
is_pos_lem (pos n) e = refl
is_pos_lem (negsuc n) e = let z : ◌≡◌ {A = ℕ} 0 1 = cc in absurd (omega arith)

pub flip-pos : (n : ℕ) → negsuc 0 -ℤ pos n ≡ negsuc n
flip-pos zero = refl
flip-pos (suc n) = ap (λ k. negsuc (suc k)) (omega arith)

-- 32 bits are those of the number that they stand for
pub bits-number : (w : ℕ) → w < 2 ^ 32 → bits_of (number_of w) ≡ w
bits-number w h = go (ltb w 2147483648) refl
  where
    go : (b : Bool) → ltb w 2147483648 ≡ b → bits_of (cond b (pos w) (negsuc (4294967295 - w))) ≡ w
    go true e = refl
    go false e = omega arith
