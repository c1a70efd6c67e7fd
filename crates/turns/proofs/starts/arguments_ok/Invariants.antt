use mathlib.Core.Path.{◌≡◌}
use mathlib.Core.Bool.{true}
use Rattle.ground.specs.Bytes.{at}
use Rattle.ground.specs.Bounded.{all_below}
use Rattle.turns.specs.Faults.{argument_at}
use Rattle.turns.proofs.starts.arguments_ok.Given as goal

abbrev pub invariant-loop-j : goal.invariant-loop-j
invariant-loop-j l = all_below l.j (argument_at l.classes l.t (at l.m.bytes.now)) ≡ true
