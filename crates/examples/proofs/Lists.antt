-- Lists that are run at once, and refused bundles, by computation.
use mathlib.Core.Path.{refl}
use Rattle.machine.specs.Runs.{run}
use Rattle.runner.specs.Run.{steps_in, taken, ran_of}
use Rattle.cases.proofs.Judgement.{judgement}
use Rattle.examples.specs.Lists.{ListsHold, RefusalsHold}
use Rattle.examples.proofs.Answered.{answered}

pub lists-hold : ListsHold
unfolding answered ran_of steps_in taken run
lists-hold = refl

pub refusals-hold : RefusalsHold
unfolding judgement ran_of
refusals-hold = (refl, refl, refl, refl)
