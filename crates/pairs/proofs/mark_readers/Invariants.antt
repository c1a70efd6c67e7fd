use Rattle.passes.proofs.Marks.{MarkedBelow}
use Rattle.pairs.proofs.mark_readers.Given as goal

abbrev pub invariant-loop-j : goal.invariant-loop-j
invariant-loop-j l = MarkedBelow l.g l.j l.l l.initial.m l.m
