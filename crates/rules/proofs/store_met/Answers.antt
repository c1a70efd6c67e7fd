use Rattle.rules.proofs.Rules.{store-met}
use mathlib.Core.Path.{sym}
use Rattle.rules.proofs.store_met.Goals as goal

pub returns : goal.returns
returns c = rw (c.may_go.ensures, c.variable_word.ensures.1, c.depth_of.ensures.0, c.depth_of-2.ensures.0) (sym (store-met _ _ _))
