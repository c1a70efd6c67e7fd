use Rattle.instructions.proofs.table_ok.Goals as goal

pub returns-then-x-lt13 : goal.returns-then-x-lt13
returns-then-x-lt13 c = λ fields h. c.plain_ok.ensures fields

pub returns : goal.returns
returns c = λ fields h. c.field_ok.ensures _ fields (h c.if-x-lt13.false)
