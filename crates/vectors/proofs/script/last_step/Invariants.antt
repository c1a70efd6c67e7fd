-- The measure is what is left of the line.
use Rattle.std.proofs.Common.{◌-◌, length}
use Rattle.vectors.proofs.script.last_step.Given as goal

abbrev pub decreases-loop-at : goal.decreases-loop-at
decreases-loop-at l = length l.s - l.at
