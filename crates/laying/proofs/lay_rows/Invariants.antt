use Rattle.ground.specs.Lists.{each}
use Rattle.laying.specs.Laid.{row_laid}
use Rattle.laying.specs.Loops.{Lays}
use Rattle.laying.proofs.lay_rows.Given as goal

abbrev pub invariant-loop-i : goal.invariant-loop-i
invariant-loop-i l = Lays l.initial.out l.p (each l.i (row_laid l.k l.kinds l.depths)) l.q l.out
