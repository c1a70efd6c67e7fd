use mathlib.Core.Path.{ap}
use mathlib.Core.Bool.{not}
use native.Mathlib.Omega.{arith}
use Rattle.ground.proofs.Bools.{failed, passed}
use Rattle.ground.proofs.Bounded.{all-zero, all_more, all_left, all_done}
use Rattle.state.specs.State.{holds_nothing}
use Rattle.state.proofs.holds_nothing.Goals as goal

pub loop-o-init : goal.loop-o-init
loop-o-init c = all-zero _

pub returns-then-not-is_free : goal.returns-then-not-is_free
unfolding holds_nothing
returns-then-not-is_free c = all_left _ 32 c.loop-o.o (omega arith) (failed c.is_free.ensures (ap not c.if-not-is_free.true))

pub loop-o-preserved : goal.loop-o-preserved
loop-o-preserved c = all_more _ _ c.loop-o.invariant (passed c.is_free.ensures (ap not c.if-not-is_free.false))

pub returns : goal.returns
unfolding holds_nothing
returns c = all_done _ 32 c.loop-o.o (omega arith) (omega arith) c.loop-o.invariant
