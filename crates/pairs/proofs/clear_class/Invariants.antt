use Rattle.passes.specs.Passes.{Cleared}
use Rattle.passes.proofs.Clears.{ClassThen, Rows}
use Rattle.pairs.proofs.clear_class.Given as goal

abbrev pub invariant-loop-i : goal.invariant-loop-i
invariant-loop-i l = Cleared (ClassThen l.c l.initial.b) (Rows l.c l.i) l.initial.b l.b
