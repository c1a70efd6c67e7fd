use Rattle.rules.proofs.Judging.{met-one}
use Rattle.rules.specs.Rules.{push0_rule}
use mathlib.Core.Path.{sym}
use Rattle.rules.proofs.push0_met.Goals as goal

pub returns : goal.returns
unfolding push0_rule
returns c = rw (c.depth_of.ensures.0, c.depth_of-2.ensures.0) (sym (met-one _ _))
