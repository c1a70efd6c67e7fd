use Rattle.matching.proofs.Edges.{moved-edge}
use mathlib.Core.Path.{sym, ◌∙◌}
use Rattle.matching.proofs.entered_edge.Goals as goal

pub returns : goal.returns
returns c = (rw (c.compare_entered-w.ensures, c.variable_word.ensures.1, c.variable_word-2.ensures.1) at c.pass_but.ensures) ∙ sym (moved-edge _ _ _ _ _)
