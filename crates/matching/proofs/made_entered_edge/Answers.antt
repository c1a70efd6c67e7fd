use Rattle.matching.proofs.Edges.{stored-moved-edge}
use mathlib.Core.Path.{sym, ◌∙◌}
use Rattle.matching.proofs.made_entered_edge.Goals as goal

pub returns : goal.returns
returns c = (rw (c.compare_made_entered-w.ensures, c.variable_word.ensures.1) at c.pass_but.ensures) ∙ sym (stored-moved-edge _ _ _ _ _ _)
