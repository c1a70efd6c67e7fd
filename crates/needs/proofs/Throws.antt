-- A throw under a lowering of the pairs: with a handler, whose row is z, or with none; a failed new; and what may be null.
use mathlib.Core.Path.{◌≡◌, refl}
use mathlib.Core.List.{[], ◌∷◌}
use mathlib.Core.Bool.{Bool, true, false, cond, ◌&&◌}
use Prim.Native.Nat.{ℕ, zero, suc, ◌+◌, ◌<◌}
use native.Mathlib.Omega.{arith}
use lib.Dec.{eqb}
use borrow.Author.Tests.{eqb-false}
use Rattle.ground.proofs.Bools.{and-fst, and-snd, and_both}
use Rattle.entries.specs.Entries.{Entry, is_nullable}
use Rattle.entries.specs.Fits.{may_go, want}
use Rattle.rows.specs.Rows.{Row}
use Rattle.matching.specs.Matching.{under, pushed, emptied, wants, edge, vars_go, stack_goes}
use Rattle.rules.specs.Rules.{uncaught_goes, thrown, made, failure_goes, failure_thrown, null_goes, null_thrown}
use Rattle.rules.proofs.Held.{Meets, Fits, AllFit}
use Rattle.needs.specs.Needs.{fitting, gone, kept, thrown_var, thrown_top}
use Rattle.needs.specs.Exactly.{Under, same, UnderRow, Has, AllHave}
use Rattle.needs.proofs.Entries.{nullable-under, want-lower, meets-forced, meets-holds, goes-forced, goes-holds}
use Rattle.needs.proofs.Rows.{kept-forced, kept-holds, vars-gone, vars-go, stack-gone, stack-goes}

module _ (vars : ℕ) (x x' : Row) (u : UnderRow vars x x') (h : ℕ) (z z' : Row) (w : (h ≡ 0 → ⊥) → UnderRow vars z z') where
  handled : (eqb h 0 ≡ false) → UnderRow vars z z'
  handled q = w (eqb-false h 0 q)

  -- ---- e' is thrown, e is under it
  module _ (e e' : Entry) (le : Under e e') (goes : uncaught_goes vars h e' x' ≡ true) (fits : AllFit vars (thrown h e' x' z')) where
    pub thrown-forced : ((i : ℕ) → i < vars → Has (thrown_var h z i) (x'.variable i)) × Has (thrown_top h z) e'
    unfolding uncaught_goes thrown thrown_var thrown_top
    thrown-forced = go (eqb h 0) refl goes fits
      where
        go : (t : Bool) → eqb h 0 ≡ t → cond t (may_go e' && vars_go vars x') true ≡ true → AllFit vars (cond t [] (edge (pushed e' (emptied x')) (wants z') ∷ []))
            → ((i : ℕ) → i < vars → Has (cond t gone (kept z i)) (x'.variable i)) × Has (cond t gone (fitting (z.stack 0))) e'
        go true q g f = (vars-gone vars x x' u (and-snd (may_go e') _ g), goes-forced e' (and-fst _ _ g))
        go false q g f =
            let d : 0 < z.depth = omega (arith, f.0.depths, (handled q).depth) in
            (kept-forced vars x x' u z z' (handled q) f.0.variables, meets-forced (want-lower ((handled q).stack 0 d)) (f.0.entries 0 (omega arith)))

    pub thrown-holds : ((i : ℕ) → i < vars → Has (thrown_var h z i) (x.variable i)) → Has (thrown_top h z) e → (uncaught_goes vars h e x ≡ true) × AllFit vars (thrown h e x z)
    unfolding uncaught_goes thrown thrown_var thrown_top
    thrown-holds m n = go (eqb h 0) refl goes fits m n
      where
        caught : UnderRow vars z z' → Fits vars (edge (pushed e' (emptied x')) (wants z')) → ((i : ℕ) → i < vars → Has (kept z i) (x.variable i)) → Has (fitting (z.stack 0)) e
            → Fits vars (edge (pushed e (emptied x)) (wants z))
        caught v f m n =
            record {
              depths = omega (arith, f.depths, v.depth);
              variables = kept-holds vars x x' u z z' v f.variables m;
              entries = entries;
            }
          where
            entries : (j : ℕ) → j < 0 + 1 → Meets (under e x.stack j) (want (z.stack j))
            entries zero l = meets-holds (want-lower (v.stack 0 (omega (arith, f.depths, v.depth)))) le (f.entries 0 (omega arith)) n
            entries (suc j) l = absurd (omega arith)

        go : (t : Bool) → eqb h 0 ≡ t → cond t (may_go e' && vars_go vars x') true ≡ true → AllFit vars (cond t [] (edge (pushed e' (emptied x')) (wants z') ∷ []))
            → ((i : ℕ) → i < vars → Has (cond t gone (kept z i)) (x.variable i)) → Has (cond t gone (fitting (z.stack 0))) e
            → (cond t (may_go e && vars_go vars x) true ≡ true) × AllFit vars (cond t [] (edge (pushed e (emptied x)) (wants z) ∷ []))
        go true q g f m n = (and_both _ _ (goes-holds le (and-fst _ _ g) n) (vars-go vars x x' u (and-snd (may_go e') _ g) m), tt)
        go false q g f m n = (refl, (caught (handled q) f.0 m n, tt))

  -- ---- a failed new: every stack entry may go, and (0,0) of the exception class is thrown
  module _ (exception : ℕ) (goes : failure_goes vars exception h x' ≡ true) (fits : AllFit vars (failure_thrown exception h x' z')) where
    uncaught : uncaught_goes vars h (made exception) x' ≡ true
    unfolding failure_goes
    uncaught = and-snd (stack_goes x') _ goes

    pub failure-forced : AllHave vars x.depth (thrown_var h z) (λ j. gone) x'
    unfolding failure_goes
    failure-forced =
        record {
          variable = (thrown-forced (made exception) (made exception) same uncaught fits).0;
          stack = stack-gone vars x x' u (and-fst _ _ goes);
        }

    pub failure-holds : AllHave vars x.depth (thrown_var h z) (λ j. gone) x → (failure_goes vars exception h x ≡ true) × AllFit vars (failure_thrown exception h x z)
    unfolding failure_goes
    failure-holds m =
        let k = thrown-holds (made exception) (made exception) same uncaught fits m.variable (thrown-forced (made exception) (made exception) same uncaught fits).1 in
        (and_both _ _ (stack-goes vars x x' u (and-fst _ _ goes) m.stack) k.0, k.1)

  -- ---- where e may be null, its throw
  module _ (exception : ℕ) (e e' : Entry) (le : Under e e') (goes : null_goes vars exception h e' x' ≡ true) (fits : AllFit vars (null_thrown exception h e' x' z')) where
    pub null-forced : is_nullable e ≡ true → AllHave vars x.depth (thrown_var h z) (λ j. gone) x'
    unfolding null_goes null_thrown
    null-forced q = let q' : is_nullable e' ≡ true = rw (nullable-under le) at q in failure-forced exception (rw q' at goes) (rw q' at fits)

    pub null-holds : (is_nullable e ≡ true → AllHave vars x.depth (thrown_var h z) (λ j. gone) x) → (null_goes vars exception h e x ≡ true) × AllFit vars (null_thrown exception h e x z)
    unfolding null_goes null_thrown
    null-holds m = go (is_nullable e) refl (rw (← nullable-under le) at goes) (rw (← nullable-under le) at fits)
      where
        go : (t : Bool) → is_nullable e ≡ t → cond t (failure_goes vars exception h x') true ≡ true → AllFit vars (cond t (failure_thrown exception h x' z') [])
            → (cond t (failure_goes vars exception h x) true ≡ true) × AllFit vars (cond t (failure_thrown exception h x z) [])
        go true q g f = failure-holds exception g f (m q)
        go false q g f = (refl, tt)
