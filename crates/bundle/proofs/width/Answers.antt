use Rattle.std.proofs.Common.{rules}
use Rattle.bundle.specs.Container.{width}
use Rattle.bundle.proofs.width.Goals as goal

pub returns : goal.returns
unfolding width
returns c = search rules
