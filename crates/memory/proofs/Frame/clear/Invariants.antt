use Rattle.memory.specs.Frames.{cleared_in}
use mathlib.Core.Path.{◌≡◌}
use Rattle.memory.proofs.Frame.clear.Given as goal

abbrev pub invariant-loop-v : goal.invariant-loop-v
invariant-loop-v l = l.self ≡ cleared_in l.v l.initial.self
