use Rattle.instructions.specs.Table.{table_ok}
use Rattle.instructions.proofs.Limits.{plain-told}
use Rattle.instructions.proofs.plain_ok.Goals as goal

pub returns : goal.returns
unfolding table_ok
returns c = λ fields.
    let a = c.args in
    rw (c.operand_limit.ensures, c.address_reach.ensures)
    (plain-told a.classes fields a.vars a.code a.x.opcode a.x.operand a.x.address c.requires)
