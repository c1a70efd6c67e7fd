use Rattle.rules.specs.Rules.{object_goes}
use Rattle.rules.proofs.object_goes.Goals as goal

pub returns-then-not-is_of : goal.returns-then-not-is_of
unfolding object_goes
returns-then-not-is_of c = rw (← c.stack_word-w.ensures.1, ← c.is_of.ensures, c.if-not-is_of.true)

pub returns : goal.returns
unfolding object_goes
returns c = rw (← c.stack_word-w.ensures.1, ← c.is_of.ensures, c.if-not-is_of.false) c.may_go.ensures
