use Rattle.needs.specs.Needs.{or_null}
use Rattle.needs.proofs.or_null.Goals as goal

pub returns-then-is_nullable : goal.returns-then-is_nullable
unfolding or_null
returns-then-is_nullable c = rw (← c.is_nullable.ensures, c.if-is_nullable.true) c.both.ensures

pub returns : goal.returns
unfolding or_null
returns c = rw (← c.is_nullable.ensures, c.if-is_nullable.false)
