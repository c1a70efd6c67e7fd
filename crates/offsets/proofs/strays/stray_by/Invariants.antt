use mathlib.Core.Bool.{not}
use Rattle.offsets.specs.Targets.{branch_ok}
use Rattle.offsets.specs.Index.{Stands, Indexed}
use Rattle.offsets.proofs.Turns.{Passed}
use Rattle.offsets.proofs.strays.stray_by.Given as goal

abbrev pub invariant-loop-x : goal.invariant-loop-x
invariant-loop-x l = Passed l.code (λ q j. not (branch_ok l.code q j)) l.x-iterator × Stands l.code l.ahead.at l.ahead.count × Indexed l.code l.index
