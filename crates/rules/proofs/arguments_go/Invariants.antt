use mathlib.Core.Path.{◌≡◌}
use mathlib.Core.Bool.{true}
use Rattle.ground.specs.Bounded.{all_below}
use Rattle.ground.specs.Bytes.{at}
use Rattle.rows.specs.Rows.{row_in}
use Rattle.rules.specs.Rules.{argument_goes}
use Rattle.rules.proofs.arguments_go.Given as goal

abbrev pub invariant-loop-j : goal.invariant-loop-j
invariant-loop-j l = all_below l.j (argument_goes (at l.s) (row_in l.m l.p)) ≡ true
