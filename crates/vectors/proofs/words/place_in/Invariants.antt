-- The measure is what is left of the list.
use Rattle.std.proofs.Common.{◌-◌, length}
use Rattle.vectors.proofs.words.place_in.Given as goal

abbrev pub decreases-loop-at : goal.decreases-loop-at
decreases-loop-at l = length l.list - l.at
