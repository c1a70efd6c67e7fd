use Rattle.ground.specs.Lists.{each}
use Rattle.laying.specs.Laid.{head_laid}
use Rattle.laying.specs.Loops.{Lays}
use Rattle.laying.proofs.lay_directory.Given as goal

abbrev pub invariant-loop-c : goal.invariant-loop-c
invariant-loop-c l = Lays l.initial.out l.p (each l.c (head_laid l.directory)) l.q l.out
