use mathlib.Core.Path.{◌≡◌}
use Rattle.ground.specs.Bounded.{fill_from}
use Rattle.values.specs.Values.{zero_slot}
use Rattle.threads.proofs.zero_from.Given as goal

abbrev pub invariant-loop-i : goal.invariant-loop-i
invariant-loop-i l = l.next ≡ fill_from l.from l.i zero_slot l.initial.next
