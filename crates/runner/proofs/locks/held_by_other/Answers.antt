use Rattle.runner.specs.Locks.{held_by_other}
use mathlib.Core.Path.{refl}
use Rattle.runner.proofs.locks.held_by_other.Goals as goal

pub returns : goal.returns
unfolding held_by_other
returns c = refl
