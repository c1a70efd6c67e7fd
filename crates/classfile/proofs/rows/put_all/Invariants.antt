use Rattle.classfile.proofs.Laid.{Wrote}
use Rattle.classfile.proofs.rows.put_all.Given as goal

abbrev pub invariant-loop-x : goal.invariant-loop-x
invariant-loop-x l = Wrote l.m.classes.now l.m.code.now l.m.table.now l.initial.out l.out l.x-iterator l.k
