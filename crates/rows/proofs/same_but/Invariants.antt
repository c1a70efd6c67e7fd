use mathlib.Core.Bool.{true}
use mathlib.Core.Path.{◌≡◌}
use Prim.Native.Nat.{◌+◌, ◌*◌, ◌≤◌}
use lib.ListN.{length}
use Rattle.ground.specs.Bounded.{all_below}
use Rattle.rows.specs.Words.{same_or_named}
use Rattle.rows.proofs.same_but.Given as goal

abbrev pub invariant-loop-i : goal.invariant-loop-i
invariant-loop-i l =
    (l.p + 4 * l.n ≤ length l.r) × (l.q + 4 * l.n ≤ length l.r) × (all_below l.i (same_or_named l.r l.p l.q l.v) ≡ true)
