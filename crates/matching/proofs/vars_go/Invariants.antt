use mathlib.Core.Path.{◌≡◌}
use mathlib.Core.Bool.{true}
use Rattle.ground.specs.Bounded.{all_below}
use Rattle.matching.specs.Matching.{var_goes}
use Rattle.rows.specs.Rows.{row_in}
use Rattle.matching.proofs.vars_go.Given as goal

abbrev pub invariant-loop-i : goal.invariant-loop-i
invariant-loop-i l = all_below l.i (var_goes (row_in l.m l.p)) ≡ true
