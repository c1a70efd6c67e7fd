use mathlib.Core.Path.{sym, ◌∙◌}
use native.Mathlib.Omega.{arith}
use Rattle.ground.proofs.Bounded.{all-zero, all_more, all_left, all_done}
use Rattle.matching.specs.Matching.{stack_goes}
use Rattle.matching.proofs.rest_goes.Goals as goal

pub loop-j-init : goal.loop-j-init
loop-j-init c = all-zero _

pub returns-then-not-below_goes : goal.returns-then-not-below_goes
unfolding stack_goes
returns-then-not-below_goes c = rw (← c.depth_at.ensures, ← c.saturating_sub-j-end.ensures) (all_left _ _ _ c.loop-j-test.true (sym c.below_goes.ensures ∙ c.if-not-below_goes.true))

pub loop-j-preserved : goal.loop-j-preserved
loop-j-preserved c = all_more _ _ c.loop-j.invariant (sym c.below_goes.ensures ∙ c.if-not-below_goes.false)

pub returns : goal.returns
unfolding stack_goes
returns c = rw (← c.depth_at.ensures, ← c.saturating_sub-j-end.ensures) (all_done _ _ _ (omega arith) c.loop-j-test.false c.loop-j.invariant)
