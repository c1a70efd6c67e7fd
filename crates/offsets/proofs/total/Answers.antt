use Rattle.offsets.proofs.Turns.{counted-first, counted-next, counted-all}
use Rattle.offsets.proofs.total.Goals as goal

pub loop-x-init : goal.loop-x-init
loop-x-init c = counted-first _ c.into_iter-x-iterator.ensures.into_iter_gives c.walk-x-items.ensures

pub loop-x-preserved : goal.loop-x-preserved
loop-x-preserved c = counted-next _ c.loop-x.invariant c.in-Some.ensures.steps c.gives-k.ensures

pub returns : goal.returns
returns c = counted-all _ c.loop-x.invariant c.in-None.ensures.steps
