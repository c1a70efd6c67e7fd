use Rattle.bundle.specs.Program.{method_at}
use Rattle.turns.proofs.fields.first_fields.Goals as goal

pub returns : goal.returns
unfolding method_at
returns c = rw (c.first_field.ensures, c.first_field-2.ensures, c.first_field-3.ensures, c.first_field-4.ensures, c.record_at-m.ensures.bytes, c.record_at-m.ensures.numbers)
