use Rattle.offsets.proofs.Turns.{walk_turn}
use Rattle.offsets.proofs.places.walk.Goals as goal

pub loop-x-preserved : goal.loop-x-preserved
loop-x-preserved c = walk_turn _ _ c.loop-x.invariant c.loop-x-test.true c.next-x.ensures.0 c.next-x.ensures.2 c.next-x.ensures.3
