use Rattle.runner.proofs.Halfway.{Halfway}
use Rattle.runner.proofs.accepted.Given as goal

abbrev pub invariant-loop-x : goal.invariant-loop-x
invariant-loop-x l = Halfway l.b l.schedule l.table l.m l.steps l.x-index
