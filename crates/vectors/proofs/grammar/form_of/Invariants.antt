-- The measure is what is left of the table.
use Rattle.std.proofs.Common.{◌-◌, length}
use Rattle.vectors.proofs.grammar.form_of.Given as goal

abbrev pub decreases-loop-at : goal.decreases-loop-at
decreases-loop-at l = length l.table - l.at
