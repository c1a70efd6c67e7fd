use Rattle.memory.specs.Frames.{dropped_in}
use mathlib.Core.Path.{◌≡◌}
use Rattle.memory.proofs.Frame.drop_all.Given as goal

abbrev pub invariant-loop : goal.invariant-loop
invariant-loop l = l.self ≡ dropped_in l.counter l.initial.self
