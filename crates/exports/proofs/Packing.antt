-- An end with 64 added: a small natural number.
use mathlib.Core.Path.{◌≡◌, refl, sym, ap, subst}
use Prim.Native.Nat.{ℕ, suc, ◌+◌, ◌-◌, ◌≤◌}
use native.Mathlib.Omega.{arith}
use lib.Dec.{T}
use lib.IntN.{ℤ, pos, negsuc, nat_abs, ◌+ℤ◌}
use lib.Signed.{non_neg}
use borrow.Author.Tests.{le-ltb}
use mir.Syntax.{w32, w64}
use mir.Val.{Fits, SFits}
use Rattle.exports.specs.Packing.{end_byte}

module _ (e : ℤ) (l : nat_abs e ≤ 63) where
  up-64 : (m : ℕ) × (e +ℤ pos 64 ≡ pos m) × (m ≤ 127)
  up-64 = go e l
    where
      go : (z : ℤ) → nat_abs z ≤ 63 → (m : ℕ) × (z +ℤ pos 64 ≡ pos m) × (m ≤ 127)
      go (pos n) k = (n + 64, refl, omega arith)
      go (negsuc n) k = (64 - suc n, rw (le-ltb 64 (suc n) (omega arith)), omega arith)

  pub up_fits : SFits w32 (e +ℤ pos 64)
  up_fits = subst (λ (z : ℤ). SFits w32 z) (sym up-64.1) (record { sfits = omega (arith, up-64.2) })

  pub up-casts : T (non_neg (e +ℤ pos 64)) × Fits w64 (nat_abs (e +ℤ pos 64))
  up-casts =
      subst (λ (z : ℤ). T (non_neg z) × Fits w64 (nat_abs z)) (sym up-64.1) (tt, record { fits = omega (arith, up-64.2) })

  pub end-small : end_byte e ≤ 127
  end-small = subst (λ (n : ℕ). n ≤ 127) (sym (ap nat_abs up-64.1)) up-64.2
