use Rattle.classfile.proofs.Laid.{laid-zero, laid_one, laid-three, rows_fit}
use Rattle.classfile.proofs.rows.put_rows.Goals as goal

pub returns-then-n-eq0 : goal.returns-then-n-eq0
returns-then-n-eq0 c = laid-zero _ _ _ _ _ _ _ c.gives-n.ensures c.if-n-eq0.true

pub returns-then-n-eq1 : goal.returns-then-n-eq1
returns-then-n-eq1 c =
    laid_one _ _ _ _ _ _ _ c.gives-n.ensures c.if-n-eq1.true c.row_of-first.ensures c.put.ensures

pub returns : goal.returns
returns c =
    laid-three _ _ _ _ _ _ _ c.gives-n.ensures c.if-n-eq0.false c.if-n-eq1.false c.row_of-first.ensures (rows_fit c.requires.3 c.requires.4) c.put.ensures c.row.ensures c.put-2.ensures c.row-2.ensures c.put-3.ensures
