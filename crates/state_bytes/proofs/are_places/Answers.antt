use mathlib.Core.Path.{ap}
use mathlib.Core.Bool.{not}
use Rattle.std.proofs.Common.{rules, arith}
use Rattle.ground.proofs.Bools.{passed, failed}
use Rattle.ground.proofs.Bounded.{all-zero, all_more, all_left, all_done}
use Rattle.state_bytes.proofs.are_places.Goals as goal

pub loop-i-init : goal.loop-i-init
loop-i-init c = search (rules, all-zero)

pub returns-then-not-is_place : goal.returns-then-not-is_place
returns-then-not-is_place c = all_left _ _ _ c.loop-i-test.true (failed c.is_place.ensures (ap not c.if-not-is_place.true))

pub loop-i-preserved : goal.loop-i-preserved
loop-i-preserved c = all_more _ _ c.loop-i.invariant (passed c.is_place.ensures (ap not c.if-not-is_place.false))

pub returns : goal.returns
returns c = all_done _ _ _ (omega arith) c.loop-i-test.false c.loop-i.invariant
