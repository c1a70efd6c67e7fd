use Rattle.passes.specs.Passes.{Cleared}
use Rattle.passes.proofs.Clears.{Then, Classes}
use Rattle.pairs.proofs.clear_all.Given as goal

abbrev pub invariant-loop-c : goal.invariant-loop-c
invariant-loop-c l = Cleared (Then l.initial.b) (Classes l.c) l.initial.b l.b
