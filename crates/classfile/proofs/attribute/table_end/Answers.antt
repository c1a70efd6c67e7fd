use Rattle.classfile.proofs.Order.{table-ends}
use Rattle.classfile.proofs.attribute.table_end.Goals as goal

pub returns : goal.returns
returns c = table-ends _ c.quad.ensures c.word.ensures
