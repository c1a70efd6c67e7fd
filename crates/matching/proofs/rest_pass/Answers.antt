use native.Mathlib.Omega.{arith}
use Rattle.matching.specs.Passes.{rest_pass}
use Rattle.matching.proofs.Scans.{first-zero, first-next, first-left, first-done}
use Rattle.matching.proofs.rest_pass.Goals as goal

pub loop-j-init : goal.loop-j-init
loop-j-init c = first-zero _

pub returns-in_err-rest_short : goal.returns-in_err-rest_short
unfolding rest_pass
returns-in_err-rest_short c =
    rw (← c.depth_at.ensures, ← c.saturating_sub-j-end.ensures)
    (first-left _ _ c.from_residual.ensures.1 _ _ _ c.loop-j-test.true c.loop-j.invariant c.in_err-rest_short.ensures)

pub loop-j-preserved : goal.loop-j-preserved
loop-j-preserved c = first-next _ _ c.loop-j.invariant c.in_ok-rest_short.ensures

pub returns : goal.returns
unfolding rest_pass
returns c = rw (← c.depth_at.ensures, ← c.saturating_sub-j-end.ensures) (first-done _ _ _ (omega arith) c.loop-j-test.false c.loop-j.invariant)
