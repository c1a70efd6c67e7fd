use Rattle.offsets.proofs.Turns.{passed-first, passed-next, passed-found, passed-all}
use Rattle.offsets.specs.Offenders.{unknown_at, first_unknown}
use Rattle.offsets.proofs.first_unknown.Goals as goal

pub loop-x-init : goal.loop-x-init
loop-x-init c = passed-first _ _ c.into_iter-x-iterator.ensures.into_iter_gives c.walk-x-items.ensures

pub returns-then-not-known : goal.returns-then-not-known
unfolding first_unknown unknown_at
returns-then-not-known c = passed-found _ _ c.loop-x.invariant c.in-Some.ensures.steps (rw (← c.known.ensures, c.if-not-known.true))

pub loop-x-preserved : goal.loop-x-preserved
loop-x-preserved c = passed-next _ _ c.loop-x.invariant c.in-Some.ensures.steps (rw (← c.known.ensures, c.if-not-known.false))

pub returns : goal.returns
unfolding first_unknown unknown_at
returns c = passed-all _ _ c.loop-x.invariant c.in-None.ensures.steps
