use Rattle.std.proofs.Common.{rules}
use Rattle.classfile.proofs.Order.{whole-end, part-under}
use Rattle.classfile.specs.Attribute.{code_of}
use native.Mathlib.Omega.{arith}
use Rattle.classfile.proofs.attribute.code_of.Goals as goal

pub slice_bounds-result-end : goal.slice_bounds-result-end
slice_bounds-result-end c = omega (arith, c.quad.ensures, whole-end _ c.requires)

pub returns : goal.returns
unfolding code_of
returns c = (rw c.quad.ensures, part-under c.args.a.now c.quad.result (omega (arith, c.quad.ensures, whole-end _ c.requires)) (search rules))
