use mathlib.Core.Path.{◌≡◌, sym}
use Prim.Native.Nat.{◌+◌}
use native.Mathlib.Omega.{arith}
use Rattle.ground.proofs.Writes.{set-zero, set_more}
use Rattle.passes.specs.Marks.{goals}
use Rattle.pairs.proofs.goals.Goals as goal

pub loop-l-init : goal.loop-l-init
loop-l-init c = sym (set-zero _ _)

pub loop-l-preserved : goal.loop-l-preserved
loop-l-preserved c = rw (c.goal_of.ensures, c.instruction_at.ensures, c.loop-l.invariant) (sym (set_more _ _ _))

pub returns : goal.returns
unfolding goals
returns c = let e : c.loop-l.l ≡ c.args.m.now.class.code + 1 = omega arith in rw e at c.loop-l.invariant
