use Rattle.rows.specs.Rows.{row_in}
use Rattle.matching.proofs.Edges.{replaced-edge}
use mathlib.Core.Path.{sym, ◌∙◌}
use Rattle.matching.proofs.counted_edge.Goals as goal

pub returns : goal.returns
returns c = (rw (c.compare_int-t.ensures, c.stack_word.ensures.1) at c.pass.ensures) ∙ sym (replaced-edge _ (row_in c.args.m.now c.args.p) (row_in c.args.m.now c.args.q) _)
