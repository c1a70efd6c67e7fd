use Rattle.memory.specs.Frames.{slot_in}
use Rattle.values.specs.Values.{zero_slot}
use Rattle.ground.specs.Bounded.{set_below}
use lib.ListN.{replicate}
use mathlib.Core.Path.{◌≡◌}
use Rattle.memory.proofs.words.slots.Given as goal

abbrev pub invariant-loop-v : goal.invariant-loop-v
invariant-loop-v l = l.next ≡ set_below l.v (slot_in l.words) (replicate 16 zero_slot)
