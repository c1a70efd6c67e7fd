use Rattle.instructions.specs.Table.{table_ok}
use Rattle.instructions.proofs.Limits.{field_told}
use Rattle.instructions.proofs.field_ok.Goals as goal

pub returns : goal.returns
unfolding table_ok
returns c = λ vars fields h.
    let a = c.args in
    field_told a.classes fields vars a.code a.named a.x.opcode a.x.operand a.x.address c.requires h
