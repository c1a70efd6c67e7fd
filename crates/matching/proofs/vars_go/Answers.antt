use mathlib.Core.Path.{sym, ◌∙◌}
use native.Mathlib.Omega.{arith}
use Rattle.ground.proofs.Bounded.{all-zero, all_more, all_left, all_done}
use Rattle.matching.specs.Matching.{vars_go}
use Rattle.matching.proofs.vars_go.Goals as goal

pub loop-i-init : goal.loop-i-init
loop-i-init c = all-zero _

pub returns-then-not-var_goes : goal.returns-then-not-var_goes
unfolding vars_go
returns-then-not-var_goes c = all_left _ _ _ c.loop-i-test.true (sym c.var_goes.ensures ∙ c.if-not-var_goes.true)

pub loop-i-preserved : goal.loop-i-preserved
loop-i-preserved c = all_more _ _ c.loop-i.invariant (sym c.var_goes.ensures ∙ c.if-not-var_goes.false)

pub returns : goal.returns
unfolding vars_go
returns c = all_done _ _ _ (omega arith) c.loop-i-test.false c.loop-i.invariant
