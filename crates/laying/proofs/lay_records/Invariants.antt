use Rattle.ground.specs.Lists.{each}
use Rattle.laying.specs.Laid.{record_of}
use Rattle.laying.specs.Given.{given_of}
use Rattle.laying.specs.Loops.{Lays}
use Rattle.laying.proofs.lay_records.Given as goal

abbrev pub invariant-loop-c : goal.invariant-loop-c
invariant-loop-c l = Lays l.initial.out 0 (each l.c (record_of (given_of l.parts))) l.q l.out
