use Rattle.runner.specs.Memory.{slot_from}
use Rattle.values.specs.Values.{zero_slot}
use Rattle.ground.specs.Bounded.{set_below}
use lib.ListN.{replicate}
use mathlib.Core.Path.{◌≡◌}
use Rattle.runner.proofs.running.slots_from.Given as goal

abbrev pub invariant-loop-k : goal.invariant-loop-k
invariant-loop-k l = l.next ≡ set_below l.k (slot_from l.fields) (replicate 128 zero_slot)
