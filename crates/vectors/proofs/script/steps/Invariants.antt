-- The measure is what is left of the line.
use Rattle.std.proofs.Common.{◌-◌, length}
use Rattle.vectors.proofs.script.steps.Given as goal

abbrev pub decreases-loop-at : goal.decreases-loop-at
decreases-loop-at g l = length l.s - l.at
