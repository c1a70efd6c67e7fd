-- In a run of an accepted bundle answers 11 to 18 never arise: by demand 3.
use Rattle.soundness.proofs.Demand3.{demand-3}
use Rattle.runner.specs.Run.{step_in, steps_in, NeverFaults}
use Rattle.ground.specs.Bytes.{at}
use lib.ListN.{take}

-- THEOREM
pub never-faults : NeverFaults
never-faults b xs e n l = ((demand-3 b e (steps_in (take n xs))).1 (step_in (at xs n))).no_fault
