use Rattle.rules.proofs.Judging.{met-one}
use Rattle.rules.specs.Rules.{load_rule}
use Rattle.matching.specs.Matching.{wants_loaded}
use mathlib.Core.Path.{sym}
use Rattle.rules.proofs.load_met.Goals as goal

pub returns : goal.returns
unfolding wants_loaded load_rule
returns c = rw (c.depth_of.ensures.0, c.depth_of-2.ensures.0) (sym (met-one _ _))
