use Rattle.rows.specs.Rows.{row_in}
use Rattle.matching.proofs.Edges.{stored-edge}
use mathlib.Core.Path.{sym, ◌∙◌}
use Rattle.matching.proofs.stored_edge.Goals as goal

pub returns : goal.returns
returns c = (rw (c.word_short-w.ensures, c.stack_word.ensures.1, c.variable_word.ensures.1) at c.pass_but.ensures) ∙ sym (stored-edge _ (row_in c.args.m.now c.args.p) (row_in c.args.m.now c.args.q) _)
