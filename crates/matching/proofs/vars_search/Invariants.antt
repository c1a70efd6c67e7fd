use Rattle.matching.specs.Passes.{var_short}
use Rattle.matching.specs.Matching.{first_short}
use Rattle.rows.specs.Rows.{row_in}
use mathlib.Core.Path.{◌≡◌}
use Rattle.matching.proofs.vars_search.Given as goal

abbrev pub invariant-loop-i : goal.invariant-loop-i
invariant-loop-i l = first_short l.i (var_short (row_in l.m l.p) (row_in l.m l.q)) ≡ 0
