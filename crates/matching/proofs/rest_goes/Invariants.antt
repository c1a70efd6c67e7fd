use mathlib.Core.Path.{◌≡◌}
use mathlib.Core.Bool.{true}
use Rattle.ground.specs.Bounded.{all_below}
use Rattle.matching.specs.Matching.{popped, entry_goes}
use Rattle.rows.specs.Rows.{row_in}
use Rattle.matching.proofs.rest_goes.Given as goal

abbrev pub invariant-loop-j : goal.invariant-loop-j
invariant-loop-j l = all_below l.j (entry_goes (popped 1 (row_in l.m l.p))) ≡ true
