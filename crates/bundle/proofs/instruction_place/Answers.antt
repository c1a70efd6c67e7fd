use Rattle.std.proofs.Common.{rules}
use Rattle.bundle.specs.Container.{instruction_place}
use Rattle.bundle.proofs.instruction_place.Goals as goal

pub returns : goal.returns
unfolding instruction_place
returns c = search rules
