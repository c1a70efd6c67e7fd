-- No clause on fields or null is idle: what each slip would let through faults, by computation.
use mathlib.Core.Path.{refl}
use Rattle.examples.specs.FieldSlips.{FieldSlipsHold}
use Rattle.examples.proofs.Answered.{answered}

pub field-slips-hold : FieldSlipsHold
unfolding answered
field-slips-hold = refl
