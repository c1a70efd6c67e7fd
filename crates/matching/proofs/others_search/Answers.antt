use native.Mathlib.Omega.{arith}
use lib.Dec.{eqb}
use borrow.Author.Tests.{not-false}
use Rattle.ground.proofs.Bools.{or-false-fst, or-false-snd}
use Rattle.matching.specs.Passes.{others_pass}
use Rattle.matching.proofs.Scans.{first-zero, first-next, first-left, first-done}
use Rattle.matching.proofs.others_search.Goals.{then-i-v+in_ok-other_short, else-i-v}
use Rattle.matching.proofs.others_search.Goals as goal

pub loop-i-init : goal.loop-i-init
loop-i-init c = first-zero _

pub returns-in_err-other_short : goal.returns-in_err-other_short
unfolding others_pass
returns-in_err-other_short c = first-left _ _ c.from_residual.ensures.1 _ _ _ c.loop-i-test.true c.loop-i.invariant c.in_err-other_short.ensures

pub loop-i-preserved : goal.loop-i-preserved
loop-i-preserved c =
    let named = eqb c.loop-i.i c.args.v in
    elim c.if-i-v.branch [
      | then-i-v+in_ok-other_short w ↦ first-next _ _ c.loop-i.invariant w.in_ok-other_short.ensures
      | else-i-v w ↦ first-next _ _ c.loop-i.invariant (rw (or-false-fst named _ w.if-i-v.false) (c.var_kept.ensures (not-false _ (or-false-snd named _ w.if-i-v.false))))
    ]

pub returns : goal.returns
unfolding others_pass
returns c = first-done _ _ _ (omega arith) c.loop-i-test.false c.loop-i.invariant
