use Rattle.offsets.specs.Targets.{stray_entry}
use mathlib.Core.Bool.{false}
use Prim.Native.Nat.{ℕ, ◌<◌}
use mathlib.Core.Path.{◌≡◌}
use Rattle.offsets.proofs.strays.stray_entry_by.Given as goal

abbrev pub invariant-loop-i : goal.invariant-loop-i
invariant-loop-i l = (q : ℕ) → q < l.i → stray_entry l.code l.table q ≡ false
