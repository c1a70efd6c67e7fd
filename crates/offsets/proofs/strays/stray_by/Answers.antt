use Rattle.offsets.proofs.Turns.{passed-first, passed-next, passed-found, passed-all, stands-first}
use Rattle.offsets.specs.Targets.{stray_at, first_stray}
use Rattle.offsets.proofs.strays.stray_by.Goals as goal

pub loop-x-init : goal.loop-x-init
loop-x-init c = (passed-first _ _ c.into_iter-x-iterator.ensures.into_iter_gives c.walk-x-items.ensures, stands-first _, c.requires.1)

pub returns-then-not-branch_ok : goal.returns-then-not-branch_ok
unfolding first_stray stray_at
returns-then-not-branch_ok c = passed-found _ _ c.loop-x.invariant.0 c.in-Some.ensures.steps (rw (← c.branch_ok.ensures, c.if-not-branch_ok.true))

pub loop-x-preserved : goal.loop-x-preserved
loop-x-preserved c = (
  passed-next _ _ c.loop-x.invariant.0 c.in-Some.ensures.steps (rw (← c.branch_ok.ensures, c.if-not-branch_ok.false)),
  c.reach-ahead.ensures.0,
  c.reach-ahead.ensures.1,
)

pub returns : goal.returns
unfolding first_stray stray_at
returns c = passed-all _ _ c.loop-x.invariant.0 c.in-None.ensures.steps
