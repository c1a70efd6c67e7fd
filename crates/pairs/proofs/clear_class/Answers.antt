use Rattle.passes.proofs.Clears.{class-goes-on, class-ends}
use Rattle.pairs.proofs.clear_class.Goals as goal

pub loop-i-preserved : goal.loop-i-preserved
loop-i-preserved c = class-goes-on _ _ _ c.class_at.ensures _ _ _ c.loop-i-test.true c.loop-i.invariant c.clear_row.ensures

pub returns : goal.returns
returns c = class-ends _ _ _ c.class_at.ensures _ _ c.loop-i-test.false c.loop-i.invariant
