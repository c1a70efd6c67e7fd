use mathlib.Core.Bool.{not}
use Rattle.java.specs.Classes.{known}
use Rattle.offsets.proofs.Turns.{Passed}
use Rattle.offsets.proofs.first_unknown.Given as goal

abbrev pub invariant-loop-x : goal.invariant-loop-x
invariant-loop-x l = Passed l.code (λ q j. not (known l.classes j)) l.x-iterator
