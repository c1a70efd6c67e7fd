use Rattle.rules.proofs.Rules.{inc-met}
use mathlib.Core.Path.{sym}
use Rattle.rules.proofs.inc_met.Goals as goal

pub returns : goal.returns
returns c = rw (c.is_int.ensures, c.stack_word.ensures.1, c.depth_of-d.ensures.0, c.depth_of.ensures.0) (sym (inc-met _ _))
