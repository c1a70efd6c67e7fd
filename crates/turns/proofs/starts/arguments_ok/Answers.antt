use mathlib.Core.Path.{sym}
use native.Mathlib.Omega.{arith}
use Rattle.ground.proofs.Bounded.{all-zero, all_more, all-stop, all_done}
use Rattle.turns.specs.Faults.{arguments_ok}
use Rattle.turns.proofs.starts.arguments_ok.Goals as goal

pub loop-j-init : goal.loop-j-init
loop-j-init c = all-zero _

pub returns-then-not-argument_at : goal.returns-then-not-argument_at
unfolding arguments_ok
returns-then-not-argument_at c = rw (all-stop _ _ _ c.loop-j-test.true (rw c.argument_at.ensures at c.if-not-argument_at.true))

pub loop-j-preserved : goal.loop-j-preserved
loop-j-preserved c = all_more _ _ c.loop-j.invariant (rw c.argument_at.ensures at c.if-not-argument_at.false)

pub returns : goal.returns
unfolding arguments_ok
returns c = rw (c.is_object.ensures, c.from_top.ensures, sym (all_done _ _ _ (omega arith) c.loop-j-test.false c.loop-j.invariant))
