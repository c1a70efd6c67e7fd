use Rattle.classfile.specs.Attribute.{whole}
use Rattle.classfile.proofs.attribute.whole.Goals as goal

pub returns : goal.returns
unfolding whole
returns c = rw (c.quad.ensures, c.table_end.ensures)
