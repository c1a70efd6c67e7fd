use Rattle.memory.specs.Frames.{argument_in}
use Rattle.ground.specs.Bounded.{set_below}
use lib.ListN.{replicate}
use mathlib.Core.Path.{◌≡◌}
use Rattle.memory.proofs.Frame.arguments.Given as goal

abbrev pub invariant-loop-v : goal.invariant-loop-v
invariant-loop-v l = l.next ≡ set_below l.v (argument_in l.self l.n) (replicate 16 0)
