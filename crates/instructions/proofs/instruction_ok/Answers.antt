use mathlib.Core.Path.{sym, ◌∙◌}
use Rattle.instructions.specs.Table.{instruction_ok}
use Rattle.instructions.proofs.instruction_ok.Goals as goal

pub returns-then-not-table_ok : goal.returns-then-not-table_ok
unfolding instruction_ok
returns-then-not-table_ok c = λ fields h. rw (sym (c.table_ok.ensures fields h) ∙ c.if-not-table_ok.true)

pub returns : goal.returns
unfolding instruction_ok
returns c = λ fields h. rw (sym (c.table_ok.ensures fields h) ∙ c.if-not-table_ok.false) c.last_ok.ensures
