use Rattle.matching.proofs.Edges.{popped-edge}
use mathlib.Core.Path.{sym, ◌∙◌}
use Rattle.matching.proofs.popped_edge.Goals as goal

pub returns : goal.returns
returns c = c.pass.ensures ∙ sym (popped-edge _ _ _ _)
