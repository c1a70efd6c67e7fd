use Rattle.matching.proofs.Edges.{emptied-edge}
use mathlib.Core.Path.{sym, ◌∙◌}
use Rattle.matching.proofs.emptied_edge.Goals as goal

pub returns : goal.returns
returns c = c.vars_pass.ensures ∙ sym (emptied-edge _ _ _)
