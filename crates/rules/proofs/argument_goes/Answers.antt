use Rattle.rules.specs.Rules.{argument_goes}
use Rattle.rules.proofs.argument_goes.Goals as goal

pub returns-then-not-matches : goal.returns-then-not-matches
unfolding argument_goes
returns-then-not-matches c = rw (← c.stack_word-w.ensures.1, ← c.byte.ensures, ← c.matches.ensures, c.if-not-matches.true)

pub returns : goal.returns
unfolding argument_goes
returns c = rw (← c.stack_word-w.ensures.1, ← c.byte.ensures, ← c.matches.ensures, c.if-not-matches.false) c.may_go.ensures
