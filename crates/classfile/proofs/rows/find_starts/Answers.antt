use Rattle.offsets.proofs.Turns.{counted-first, counted-next, counted-all}
use Rattle.classfile.proofs.Starts.{starts_none, starts-turn, turn-under}
use Rattle.ground.proofs.Writes.{fill-length}
use mathlib.Core.Path.{refl, ◌∙◌}
use native.Mathlib.Omega.{arith}
use Rattle.classfile.proofs.rows.find_starts.Goals as goal

pub loop-x-init : goal.loop-x-init
loop-x-init c = (counted-first _ c.into_iter-x-iterator.ensures.into_iter_gives c.walk-x-items.ensures, starts_none _ _, refl)

pub mark-requires : goal.mark-requires
mark-requires c = omega (arith, turn-under _ c.loop-x.invariant.0 c.in-Some.ensures.steps c.gives-n.ensures, c.loop-x.invariant.2, c.requires)

pub loop-x-preserved : goal.loop-x-preserved
loop-x-preserved c = (
  counted-next _ c.loop-x.invariant.0 c.in-Some.ensures.steps c.gives-n.ensures,
  starts-turn _ c.loop-x.invariant.0 c.loop-x.invariant.1 c.in-Some.ensures.steps c.gives-n.ensures (omega (arith, turn-under _ c.loop-x.invariant.0 c.in-Some.ensures.steps c.gives-n.ensures, c.loop-x.invariant.2, c.requires)) c.mark.ensures,
  rw c.mark.ensures (fill-length _ _ _ _ ∙ c.loop-x.invariant.2),
)

pub returns : goal.returns
returns c = rw (← counted-all _ c.loop-x.invariant.0 c.in-None.ensures.steps) c.loop-x.invariant.1
