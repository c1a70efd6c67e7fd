use Rattle.classfile.proofs.Order.{whole-end}
use Rattle.classfile.specs.Attribute.{table_of}
use native.Mathlib.Omega.{arith}
use Rattle.classfile.proofs.attribute.table_of.Goals as goal

pub slice_bounds-result-count : goal.slice_bounds-result-count
slice_bounds-result-count c = omega (arith, c.table_end-end.ensures, c.quad.ensures, whole-end _ c.requires)

pub slice_bounds-result-start : goal.slice_bounds-result-start
slice_bounds-result-start c = omega (arith, c.table_end-end.ensures, c.quad.ensures, whole-end _ c.requires)

pub slice_bounds-result-end : goal.slice_bounds-result-end
slice_bounds-result-end c = omega (arith, c.table_end-end.ensures, c.quad.ensures, whole-end _ c.requires)

pub returns : goal.returns
unfolding table_of
returns c = rw (c.table_end-end.ensures, c.quad.ensures)
