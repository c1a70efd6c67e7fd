use borrow.Author.Tests.{eq-eqb, ne_eqb}
use Rattle.turns.specs.Faults.{is_field_value}
use Rattle.turns.proofs.fields.is_field_value.Goals as goal

pub returns-then-d-eq255 : goal.returns-then-d-eq255
unfolding is_field_value
returns-then-d-eq255 c = rw (c.is_int.ensures, eq-eqb _ _ c.if-d-eq255.true)

pub returns : goal.returns
unfolding is_field_value
returns c = rw (c.may_be_object.ensures, ne_eqb _ _ c.if-d-eq255.false)
