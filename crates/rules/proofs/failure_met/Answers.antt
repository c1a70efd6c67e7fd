use Rattle.rules.proofs.Rules.{failure-met}
use Rattle.rules.proofs.failure_met.Goals as goal

pub returns : goal.returns
returns c = rw (c.stack_goes.ensures, c.throw_met.ensures) (failure-met _ _ _ _ _)
