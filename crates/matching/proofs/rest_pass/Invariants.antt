use Rattle.matching.specs.Passes.{rest_short}
use Rattle.matching.specs.Matching.{first_short}
use Rattle.rows.specs.Rows.{row_in}
use mathlib.Core.Path.{◌≡◌}
use Rattle.matching.proofs.rest_pass.Given as goal

abbrev pub invariant-loop-j : goal.invariant-loop-j
invariant-loop-j l = first_short l.j (rest_short l.a l.b (row_in l.m l.p) (row_in l.m l.q)) ≡ 0
