use Rattle.rules.specs.Rules.{null_thrown}
use Rattle.rules.proofs.null_short.Goals as goal

pub returns-then-not-is_nullable : goal.returns-then-not-is_nullable
unfolding null_thrown
returns-then-not-is_nullable c = rw (← c.is_nullable.ensures, c.if-not-is_nullable.true)

pub returns : goal.returns
unfolding null_thrown
returns c = rw (← c.is_nullable.ensures, c.if-not-is_nullable.false) c.failure_short.ensures
