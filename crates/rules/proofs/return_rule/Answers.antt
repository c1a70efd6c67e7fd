use Rattle.rules.specs.Rules.{return_rule}
use Rattle.rules.proofs.Judging.{answer-asked}
use Rattle.rules.proofs.return_rule.Goals as goal

pub returns : goal.returns
unfolding return_rule
returns c = answer-asked _ _ (rw (c.stack_goes.ensures, c.vars_go.ensures)) c.asked.ensures
