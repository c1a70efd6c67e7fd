use Rattle.std.proofs.Common.{rules}
use Rattle.ground.proofs.Tests.{tests}
use Rattle.bundle.specs.Container.{record_fits}
use Rattle.bundle.proofs.record_fits.Goals as goal

pub returns : goal.returns
unfolding record_fits
returns c = rw (← c.size.ensures.0, ← c.back.ensures) (search (rules, tests))
