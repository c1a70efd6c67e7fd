use Rattle.std.proofs.Common.{rules}
use mathlib.Core.Path.{sym, ◌∙◌}
use native.Mathlib.Omega.{arith}
use Rattle.ground.proofs.Bounded.{all-zero, all_more, all_left, all_done}
use Rattle.rules.specs.Rules.{arguments_go}
use Rattle.rules.proofs.arguments_go.Goals as goal

pub loop-j-init : goal.loop-j-init
loop-j-init c = search (rules, all-zero)

pub returns-then-not-argument_goes : goal.returns-then-not-argument_goes
unfolding arguments_go
returns-then-not-argument_goes c = all_left _ _ _ c.loop-j-test.true (sym c.argument_goes.ensures ∙ c.if-not-argument_goes.true)

pub loop-j-preserved : goal.loop-j-preserved
loop-j-preserved c = all_more _ _ c.loop-j.invariant (sym c.argument_goes.ensures ∙ c.if-not-argument_goes.false)

pub returns : goal.returns
unfolding arguments_go
returns c = all_done _ _ _ (omega arith) c.loop-j-test.false c.loop-j.invariant
