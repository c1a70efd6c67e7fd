use mathlib.Core.Path.{◌≡◌}
use lib.ListN.{replicate}
use Rattle.ground.specs.Bounded.{set_below}
use Rattle.passes.specs.Marks.{goal_at}
use Rattle.pairs.proofs.goals.Given as goal

abbrev pub invariant-loop-l : goal.invariant-loop-l
invariant-loop-l l = l.g ≡ set_below l.l (goal_at l.m.class l.m.bytes.now) (replicate 257 0)
