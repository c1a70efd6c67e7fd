use Rattle.matching.proofs.Edges.{pushed-edge}
use mathlib.Core.Path.{sym, ◌∙◌}
use Rattle.matching.proofs.made_edge.Goals as goal

pub returns : goal.returns
returns c = rw (c.compare_made-t.ensures, c.stack_word.ensures.1) at c.pass.ensures ∙ sym (pushed-edge _ _ _ _)
