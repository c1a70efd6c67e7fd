use Prim.Native.Nat.{◌+◌, ◌*◌, ◌≤◌}
use Rattle.passes.specs.Passes.{room}
use Rattle.passes.specs.Marks.{marks_left, Going}
use Rattle.pairs.proofs.settle_class.Given as goal

abbrev pub invariant-loop-l : goal.invariant-loop-l
invariant-loop-l l = Going l.n l.c l.initial.b l.m l.b × (l.start ≤ l.code)

abbrev pub decreases-loop-l : goal.decreases-loop-l
decreases-loop-l l = room l.b * 258 + marks_left l.m
