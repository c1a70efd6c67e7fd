-- The index starts at the place and stays within the text. The measure is what is left of the text.
use Rattle.std.proofs.Common.{◌≤◌, ◌-◌, length}
use Rattle.vectors.proofs.words.upto.Given as goal

abbrev pub invariant-loop-i : goal.invariant-loop-i
invariant-loop-i l = (l.at ≤ l.i) × (l.i ≤ length l.s)

abbrev pub decreases-loop-i : goal.decreases-loop-i
decreases-loop-i l = length l.s - l.i
