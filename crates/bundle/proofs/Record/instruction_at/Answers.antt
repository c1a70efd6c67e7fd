use Rattle.bundle.specs.Container.{instruction_at}
use Rattle.bundle.proofs.Record.instruction_at.Goals as goal

pub returns : goal.returns
unfolding instruction_at
returns c = rw (← c.code_at.ensures) c.instruction_of.ensures
