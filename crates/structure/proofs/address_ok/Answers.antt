use Rattle.bundle.specs.Container.{fields_of}
use Rattle.structure.specs.Conditions.{address_ok}
use Rattle.structure.proofs.address_ok.Goals as goal

pub returns : goal.returns
unfolding address_ok
returns c = rw (← c.requires, ← c.code_at-x.ensures) (c.instruction_ok.ensures (fields_of c.args.b.now) c.named_fields.ensures)
