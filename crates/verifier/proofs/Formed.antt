-- Where all rows of a method are formed, no address of it draws 8.
use mathlib.Core.Path.{◌≡◌, refl, sym}
use mathlib.Core.Bool.{true}
use mathlib.Core.List.{List}
use Prim.Native.Nat.{ℕ, zero, suc, ◌+◌, ◌<◌, ◌≤◌}
use native.Mathlib.Numerals.{add-one}
use native.Mathlib.Omega.{arith}
use Rattle.ground.specs.Chain.{refuse, scan}
use Rattle.ground.proofs.Chain.{scan-zero, scan-next}
use Rattle.ground.proofs.Bounded.{all-elim}
use Rattle.bundle.specs.declared.Class.{Class}
use Rattle.verdicts.specs.Verdicts.{is_bad, pass}
use Rattle.rows.specs.Rows.{row_at}
use Rattle.forms.specs.Forms.{row_formed}
use Rattle.forms.specs.Columns.{rows_formed}
use Rattle.verifier.specs.Loops.{form_at, forms_of}

module _ (n c : ℕ) (k : Class) (r : List ℕ) (h : rows_formed n k r ≡ true) where
  form-passed : (i : ℕ) → i < k.code → pass ≡ form_at n c k r i
  unfolding rows_formed form_at refuse
  form-passed i l = rw (all-elim (λ j. row_formed k.vars k.limit (row_at n k r (j + 1))) k.code h i l)

  up_to : (i : ℕ) → i ≤ k.code → scan is_bad pass i (form_at n c k r) ≡ pass
  up_to zero l = scan-zero is_bad pass refl (form_at n c k r)
  up_to (suc i) l = rw (← add-one) (scan-next is_bad pass refl (form_at n c k r) i (up_to i (omega arith)) (form-passed i (omega arith)) refl)

  pub forms-passed : pass ≡ forms_of n c k r
  forms-passed = sym (up_to k.code (omega arith))

pub ruleset formed = (forms-passed)
