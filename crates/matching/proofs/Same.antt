-- Rows whose variables are the same entries: no comparison of variables is short.
use mathlib.Core.Path.{◌≡◌, refl, sym}
use mathlib.Core.Bool.{Bool, true, false, cond}
use Prim.Native.Nat.{ℕ, ◌<◌}
use lib.Dec.{eqb}
use borrow.Author.Tests.{eqb-false}
use Rattle.std.specs.Prelude.{◌≢◌}
use Rattle.entries.proofs.Types.{fits-itself}
use Rattle.rows.specs.Rows.{Row}
use Rattle.matching.specs.Passes.{var_short, other_short, vars_pass, others_pass}
use Rattle.matching.proofs.Scans.{first-none}

module _ (vars : ℕ) (x y : Row) where
  same-short : (i : ℕ) → x.variable i ≡ y.variable i → var_short x y i ≡ 0
  same-short i e = rw e (fits-itself (y.variable i))

  pub same-pass : ((i : ℕ) → i < vars → x.variable i ≡ y.variable i) → 0 ≡ vars_pass vars x y
  unfolding vars_pass
  same-pass e = sym (first-none vars (var_short x y) (λ i l. same-short i (e i l)))

  -- all but the variable v, whose comparison gave w
  pub same-others : (v w : ℕ) → w ≡ 0 → ((i : ℕ) → i < vars → i ≢ v → x.variable i ≡ y.variable i) → 0 ≡ others_pass vars v w x y
  unfolding others_pass
  same-others v w z e = sym (first-none vars (other_short v w x y) (λ i l. go i l (eqb i v) refl))
    where
      go : (i : ℕ) → i < vars → (t : Bool) → eqb i v ≡ t → cond t w (var_short x y i) ≡ 0
      go i l true f = z
      go i l false f = same-short i (e i l (eqb-false i v f))
