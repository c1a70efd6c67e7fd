use Rattle.passes.proofs.Marks.{ClassesSettled}
use Rattle.pairs.proofs.settle.Given as goal

abbrev pub invariant-loop-c : goal.invariant-loop-c
invariant-loop-c l = ClassesSettled l.c l.initial.b l.b
