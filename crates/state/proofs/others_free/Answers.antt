use mathlib.Core.Path.{ap}
use mathlib.Core.Bool.{not}
use native.Mathlib.Omega.{arith}
use Rattle.ground.proofs.Bools.{failed, passed}
use Rattle.ground.proofs.Bounded.{all-zero, all_more, all_left, all_done}
use Rattle.state.specs.State.{others_free}
use Rattle.state.proofs.others_free.Goals as goal

pub loop-j-init : goal.loop-j-init
loop-j-init c = all-zero _

pub returns-then-not-free_of : goal.returns-then-not-free_of
unfolding others_free
returns-then-not-free_of c = all_left _ 8 c.loop-j.j (omega arith) (failed c.free_of.ensures (ap not c.if-not-free_of.true))

pub loop-j-preserved : goal.loop-j-preserved
loop-j-preserved c = all_more _ _ c.loop-j.invariant (passed c.free_of.ensures (ap not c.if-not-free_of.false))

pub returns : goal.returns
unfolding others_free
returns c = all_done _ 8 c.loop-j.j (omega arith) (omega arith) c.loop-j.invariant
