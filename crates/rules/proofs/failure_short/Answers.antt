use Rattle.rules.proofs.Rules.{failure-short}
use mathlib.Core.Path.{◌∙◌}
use Rattle.rules.proofs.failure_short.Goals as goal

pub returns : goal.returns
returns c = (rw (c.compare_made-t.ensures, c.stack_word.ensures.1) at c.thrown_short.ensures) ∙ failure-short _ _ _ _ _
