use Rattle.turns.specs.Faults.{may_be_object}
use Rattle.turns.proofs.fields.may_be_object.Goals as goal

pub returns-then-is_null : goal.returns-then-is_null
unfolding may_be_object
returns-then-is_null c = rw (rw c.is_null.ensures at c.if-is_null.true)

pub returns : goal.returns
unfolding may_be_object
returns c = rw (c.is_object.ensures, rw c.is_null.ensures at c.if-is_null.false)
