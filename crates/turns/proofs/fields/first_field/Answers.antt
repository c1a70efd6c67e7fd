use borrow.Author.Tests.{lt-ltb, le-ltb, eq-eqb, ne_eqb}
use Rattle.bundle.specs.Program.{method_of}
use Rattle.turns.proofs.fields.first_field.Goals as goal

pub returns-then-m-j : goal.returns-then-m-j
unfolding method_of
returns-then-m-j c = rw (c.zero_slot.ensures, le-ltb _ _ c.if-m-j.true)

pub returns-then-field_at : goal.returns-then-field_at
unfolding method_of
returns-then-field_at c = rw (c.zero_slot-then-field_at.ensures, lt-ltb _ _ c.if-m-j.false, ← c.field_at.ensures, eq-eqb _ _ c.if-field_at.true)

pub returns : goal.returns
unfolding method_of
returns c = rw (c.null_slot.ensures, lt-ltb _ _ c.if-m-j.false, ← c.field_at.ensures, ne_eqb _ _ c.if-field_at.false)
