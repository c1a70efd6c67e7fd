use Rattle.std.proofs.Common.{arith}
use Rattle.offsets.proofs.Turns.{counted-first, counted-next, past-found, past_end}
use Rattle.offsets.proofs.first_past.Goals as goal

pub loop-x-init : goal.loop-x-init
loop-x-init c = (counted-first _ c.into_iter-x-iterator.ensures.into_iter_gives c.walk-x-items.ensures, omega arith)

pub returns-then-limit-k : goal.returns-then-limit-k
returns-then-limit-k c = past-found _ _ c.loop-x.invariant.0 c.loop-x.invariant.1 c.in-Some.ensures.steps c.gives-k.ensures c.if-limit-k.true

pub loop-x-preserved : goal.loop-x-preserved
loop-x-preserved c = (counted-next _ c.loop-x.invariant.0 c.in-Some.ensures.steps c.gives-k.ensures, c.if-limit-k.false)

pub returns : goal.returns
returns c = past_end _ _ c.loop-x.invariant.0 c.loop-x.invariant.1 c.in-None.ensures.steps
