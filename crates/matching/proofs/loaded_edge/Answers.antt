use Rattle.matching.proofs.Edges.{loaded-reference, loaded-other}
use Rattle.rows.specs.Rows.{row_in}
use mathlib.Core.Path.{sym, ◌∙◌}
use Rattle.matching.proofs.loaded_edge.Goals as goal

pub returns-then-is_reference : goal.returns-then-is_reference
returns-then-is_reference c = (rw (c.compare_both-w.ensures, c.variable_word-x.ensures.1, c.variable_word.ensures.1, c.stack_word-top.ensures.1) at c.pass_but.ensures) ∙ sym (loaded-reference _ (row_in c.args.m.now c.args.p) (row_in c.args.m.now c.args.q) _ (rw (c.is_reference.ensures, c.variable_word-x.ensures.1) at c.if-is_reference.true))

pub returns : goal.returns
returns c = (rw (c.word_short.ensures, c.variable_word-x.ensures.1, c.stack_word-top.ensures.1) at c.pass.ensures) ∙ sym (loaded-other _ (row_in c.args.m.now c.args.p) (row_in c.args.m.now c.args.q) _ (rw (c.is_reference.ensures, c.variable_word-x.ensures.1) at c.if-is_reference.false))
