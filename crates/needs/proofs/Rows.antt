-- Two rows that differ in their pairs only, and what is asked of each entry of a row.
use mathlib.Core.Path.{◌≡◌, refl}
use mathlib.Core.Bool.{Bool, true, false, cond}
use Prim.Native.Nat.{ℕ, ◌+◌, ◌-◌, ◌≤◌, ◌<◌}
use native.Mathlib.Omega.{arith}
use lib.Dec.{ltb, eqb}
use borrow.Author.Tests.{lt-ltb, le-ltb, ltb-true, ltb-false}
use Rattle.entries.specs.Entries.{Entry}
use Rattle.entries.specs.Fits.{Want, want}
use Rattle.rows.specs.Rows.{Row}
use Rattle.ground.proofs.Bounded.{all-elim, all-intro}
use Rattle.matching.specs.Matching.{var_goes, vars_go, entry_goes, stack_goes}
use Rattle.rules.proofs.Held.{Meets}
use Rattle.needs.specs.declared.Pair.{Pair}
use Rattle.needs.specs.Needs.{asked, fitting, gone, kept, kept_but, taken}
use Rattle.needs.specs.Exactly.{Under, UnderRow, Has}
use Rattle.needs.proofs.Entries.{Lower, want-lower, meets-forced, meets-holds, goes-forced, goes-holds}

module _ (vars : ℕ) (x x' : Row) (u : UnderRow vars x x') where
  -- ---- the stack: a entries go, and the others fit the entries f, which are under f'
  module _ (a : ℕ) (f f' : ℕ → Entry) (g : (j : ℕ) → j < x.depth - a → Under (f j) (f' j))
      (m : (j : ℕ) → j < x.depth - a → Meets (x'.stack (a + j)) (want (f' j))) (p : Pair) where
    pub taken-forced : ((j : ℕ) → j < a → Has p (x'.stack j)) → (j : ℕ) → j < x.depth → Has (taken p a f j) (x'.stack j)
    unfolding taken
    taken-forced t j l = go (ltb j a) refl
      where
        go : (s : Bool) → ltb j a ≡ s → Has (cond s p (fitting (f (j - a)))) (x'.stack j)
        go true e = t j (ltb-true j a e)
        go false e =
            let k : a ≤ j = ltb-false j a e in
            let q : a + (j - a) ≡ j = omega arith in
            let r : j - a < x.depth - a = omega arith in
            meets-forced (want-lower (g (j - a) r)) (rw q at (m (j - a) r))

    pub taken-top : a ≤ x.depth → ((j : ℕ) → j < x.depth → Has (taken p a f j) (x.stack j)) → (j : ℕ) → j < a → Has p (x.stack j)
    unfolding taken
    taken-top d h j l = rw (lt-ltb j a l) at (h j (omega arith))

    pub taken-holds : ((j : ℕ) → j < x.depth → Has (taken p a f j) (x.stack j)) → (j : ℕ) → j < x.depth - a → Meets (x.stack (a + j)) (want (f j))
    unfolding taken
    taken-holds h j l =
        let q : a + j - a ≡ j = omega arith in
        let k : Has (fitting (f j)) (x.stack (a + j)) = rw (le-ltb (a + j) a (omega arith), q) at (h (a + j) (omega arith)) in
        meets-holds (want-lower (g j l)) (u.stack (a + j) (omega arith)) (m j l) k

  -- ---- may go
  pub vars-gone : vars_go vars x' ≡ true → (i : ℕ) → i < vars → Has gone (x'.variable i)
  unfolding vars_go
  vars-gone h i l = goes-forced (x'.variable i) (all-elim (var_goes x') vars h i l)

  pub vars-go : vars_go vars x' ≡ true → ((i : ℕ) → i < vars → Has gone (x.variable i)) → vars_go vars x ≡ true
  unfolding vars_go
  vars-go h m = all-intro (var_goes x) vars (λ i l. goes-holds (u.variable i l) (all-elim (var_goes x') vars h i l) (m i l))

  pub stack-gone : stack_goes x' ≡ true → (j : ℕ) → j < x.depth → Has gone (x'.stack j)
  unfolding stack_goes
  stack-gone h j l = goes-forced (x'.stack j) (all-elim (entry_goes x') x'.depth h j (omega (arith, u.depth)))

  pub stack-goes : stack_goes x' ≡ true → ((j : ℕ) → j < x.depth → Has gone (x.stack j)) → stack_goes x ≡ true
  unfolding stack_goes
  stack-goes h m = all-intro (entry_goes x) x.depth (λ j l. goes-holds (u.stack j l) (all-elim (entry_goes x') x'.depth h j (omega (arith, u.depth))) (m j l))

  -- ---- the next row y, under y'
  module _ (y y' : Row) (v : UnderRow vars y y') where
    -- the variables
    pub kept-forced : ((i : ℕ) → i < vars → Meets (x'.variable i) (want (y'.variable i))) → (i : ℕ) → i < vars → Has (kept y i) (x'.variable i)
    kept-forced m i l = meets-forced (want-lower (v.variable i l)) (m i l)

    pub kept-holds : ((i : ℕ) → i < vars → Meets (x'.variable i) (want (y'.variable i))) → ((i : ℕ) → i < vars → Has (kept y i) (x.variable i))
        → (i : ℕ) → i < vars → Meets (x.variable i) (want (y.variable i))
    kept-holds m h i l = meets-holds (want-lower (v.variable i l)) (u.variable i l) (m i l) (h i l)

    -- .. but for w, of which W is wanted
    module _ (w : ℕ) (W W' : Want) (lower : Lower W W')
        (m : (i : ℕ) → i < vars → Meets (x'.variable i) (cond (eqb i w) W' (want (y'.variable i)))) where
      pub but-forced : (i : ℕ) → i < vars → Has (kept_but w (asked W) y i) (x'.variable i)
      unfolding kept_but
      but-forced i l = go (eqb i w) (m i l)
        where
          go : (t : Bool) → Meets (x'.variable i) (cond t W' (want (y'.variable i))) → Has (cond t (asked W) (kept y i)) (x'.variable i)
          go true k = meets-forced lower k
          go false k = meets-forced (want-lower (v.variable i l)) k

      pub but-holds : ((i : ℕ) → i < vars → Has (kept_but w (asked W) y i) (x.variable i)) → (i : ℕ) → i < vars → Meets (x.variable i) (cond (eqb i w) W (want (y.variable i)))
      unfolding kept_but
      but-holds h i l = go (eqb i w) (m i l) (h i l)
        where
          go : (t : Bool) → Meets (x'.variable i) (cond t W' (want (y'.variable i))) → Has (cond t (asked W) (kept y i)) (x.variable i)
              → Meets (x.variable i) (cond t W (want (y.variable i)))
          go true k n = meets-holds lower (u.variable i l) k n
          go false k n = meets-holds (want-lower (v.variable i l)) (u.variable i l) k n
