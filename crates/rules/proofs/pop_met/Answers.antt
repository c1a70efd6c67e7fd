use Rattle.rules.proofs.Rules.{pop-met}
use mathlib.Core.Path.{sym}
use Rattle.rules.proofs.pop_met.Goals as goal

pub returns : goal.returns
returns c = rw (c.may_go.ensures, c.stack_word.ensures.1, c.depth_of.ensures.0, c.depth_of-2.ensures.0) (sym (pop-met _ _))
