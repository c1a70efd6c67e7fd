-- No rule is idle: what each slip would let through faults, by computation.
use mathlib.Core.Path.{refl}
use Rattle.examples.specs.Slips.{SlipsHold}
use Rattle.examples.proofs.Answered.{answered}

pub slips-hold : SlipsHold
unfolding answered
slips-hold = refl
