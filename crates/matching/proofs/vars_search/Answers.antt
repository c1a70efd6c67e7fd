use native.Mathlib.Omega.{arith}
use Rattle.matching.specs.Passes.{vars_pass}
use Rattle.matching.proofs.Scans.{first-zero, first-next, first-left, first-done}
use Rattle.matching.proofs.vars_search.Goals.{then-not-var_kept+in_ok-var_short, else-not-var_kept}
use Rattle.matching.proofs.vars_search.Goals as goal

pub loop-i-init : goal.loop-i-init
loop-i-init c = first-zero _

pub returns-in_err-var_short : goal.returns-in_err-var_short
unfolding vars_pass
returns-in_err-var_short c = first-left _ _ c.from_residual.ensures.1 _ _ _ c.loop-i-test.true c.loop-i.invariant c.in_err-var_short.ensures

pub loop-i-preserved : goal.loop-i-preserved
loop-i-preserved c =
    elim c.if-not-var_kept.branch [
      | then-not-var_kept+in_ok-var_short w ↦ first-next _ _ c.loop-i.invariant w.in_ok-var_short.ensures
      | else-not-var_kept w ↦ first-next _ _ c.loop-i.invariant (c.var_kept.ensures w.if-not-var_kept.false)
    ]

pub returns : goal.returns
unfolding vars_pass
returns c = first-done _ _ _ (omega arith) c.loop-i-test.false c.loop-i.invariant
