use Rattle.matching.specs.Passes.{other_short}
use Rattle.matching.specs.Matching.{first_short}
use Rattle.entries.specs.Shorts.{short_in}
use Rattle.rows.specs.Rows.{row_in}
use mathlib.Core.Path.{◌≡◌}
use Rattle.matching.proofs.others_search.Given as goal

abbrev pub invariant-loop-i : goal.invariant-loop-i
invariant-loop-i l = first_short l.i (other_short l.v (short_in l.w) (row_in l.m l.p) (row_in l.m l.q)) ≡ 0
