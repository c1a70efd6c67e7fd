-- Demand 3 is not empty: accepted bundles that run to their end, by computation.
use mathlib.Core.Path.{refl}
use Rattle.examples.specs.Runs.{RunsHold}
use Rattle.examples.proofs.Answered.{answered}

pub runs-hold : RunsHold
unfolding answered
runs-hold = refl
