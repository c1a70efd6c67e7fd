use Rattle.runner.specs.Memory.{thread_from}
use Rattle.threads.specs.Threads.{idle}
use Rattle.ground.specs.Bounded.{set_below}
use lib.ListN.{replicate}
use mathlib.Core.Path.{◌≡◌}
use Rattle.runner.proofs.running.threads_from.Given as goal

abbrev pub invariant-loop-i : goal.invariant-loop-i
invariant-loop-i l = l.next ≡ set_below l.i (thread_from l.frames) (replicate 8 idle)
