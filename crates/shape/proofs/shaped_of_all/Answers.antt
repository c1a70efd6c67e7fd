use Rattle.std.proofs.Common.{arith}
use Rattle.std.proofs.lemmas.Result.{err_from_is_err_and}
use Rattle.verdicts.proofs.Numbers.{loop-err, loop-done}
use Rattle.shape.proofs.FirstBroken.{by-class}
use Rattle.shape.proofs.shaped_of_all.Goals as goal

pub returns-in_err-shaped_of_class : goal.returns-in_err-shaped_of_class
returns-in_err-shaped_of_class c =
    let p = err_from_is_err_and c.from_residual.result c.from_residual.ensures.1 in
    rw (p.1, p.2, by-class, ← c.classes-c-end.ensures) (loop-err _ _ _ _ c.loop-c-test.true c.loop-c.invariant c.in_err-shaped_of_class.ensures)

pub returns : goal.returns
returns c = rw (by-class, ← c.classes-c-end.ensures) (loop-done _ _ _ (omega arith) c.loop-c-test.false c.loop-c.invariant)
