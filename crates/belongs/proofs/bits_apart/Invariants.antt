use Rattle.belongs.proofs.Words.{Taken}
use Rattle.belongs.proofs.bits_apart.Given as goal

abbrev pub invariant-loop-i : goal.invariant-loop-i
invariant-loop-i l = Taken l.words l.taken l.i
