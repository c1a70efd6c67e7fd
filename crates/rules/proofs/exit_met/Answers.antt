use Rattle.rules.proofs.Judging.{met-one}
use Rattle.rules.specs.Rules.{exit_rule}
use mathlib.Core.Path.{sym}
use Rattle.rules.proofs.exit_met.Goals as goal

pub returns : goal.returns
unfolding exit_rule
returns c = rw (c.is_reference.ensures, c.variable_word.ensures.1, c.depth_of.ensures.0, c.depth_of-2.ensures.0) (sym (met-one _ _))
