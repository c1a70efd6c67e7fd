use Rattle.passes.proofs.Clears.{all-go-on, all_end}
use Rattle.pairs.proofs.clear_all.Goals as goal

pub loop-c-preserved : goal.loop-c-preserved
loop-c-preserved c = all-go-on _ _ c.classes-n.ensures _ _ _ c.loop-c-test.true c.loop-c.invariant c.clear_class.ensures

pub returns : goal.returns
returns c = all_end _ _ c.classes-n.ensures _ _ c.loop-c-test.false c.loop-c.invariant
