use mathlib.Core.Path.{◌≡◌}
use lib.ListN.{replicate}
use Rattle.ground.specs.Bounded.{set_below}
use Rattle.values.specs.Values.{zero_slot}
use Rattle.threads.specs.Threads.{from_top}
use Rattle.threads.proofs.arguments.Given as goal

abbrev pub invariant-loop-j : goal.invariant-loop-j
invariant-loop-j l = l.next ≡ set_below l.j (from_top l.starter) (replicate 16 zero_slot)
