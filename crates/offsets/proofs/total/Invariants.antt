use Rattle.offsets.proofs.Turns.{Counted}
use Rattle.offsets.proofs.total.Given as goal

abbrev pub invariant-loop-x : goal.invariant-loop-x
invariant-loop-x l = Counted l.code l.x-iterator l.k
