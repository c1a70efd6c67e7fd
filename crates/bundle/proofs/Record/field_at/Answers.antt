use Rattle.bundle.specs.Container.{field_at}
use Rattle.bundle.proofs.Record.field_at.Goals as goal

pub returns : goal.returns
unfolding field_at
returns c = c.byte.ensures
