use Rattle.ground.specs.Bounded.{fill_from}
use Prim.Native.Nat.{◌≤◌, ◌-◌}
use mathlib.Core.Path.{◌≡◌}
use lib.ListN.{length}
use Rattle.classfile.proofs.rows.mark.Given as goal

abbrev pub invariant-loop-i : goal.invariant-loop-i
invariant-loop-i l = (l.i ≤ l.n) × (l.starts ≡ fill_from l.k l.i l.p l.initial.starts) × (length l.starts ≡ length l.initial.starts)

abbrev pub decreases-loop-i : goal.decreases-loop-i
decreases-loop-i l = l.n - l.i
