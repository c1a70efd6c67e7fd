use Prim.Native.Nat.{ℕ, ◌<◌}
use mathlib.Core.Path.{◌≡◌}
use mathlib.Core.Bool.{false, not}
use lib.ListN.{get_or}
use Rattle.threads.specs.Threads.{idle}
use Rattle.state.proofs.lowest_free.Given as goal

abbrev pub invariant-loop-i : goal.invariant-loop-i
invariant-loop-i l = (j : ℕ) → j < l.i → not (get_or l.threads j idle).live ≡ false
