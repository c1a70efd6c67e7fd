use Rattle.std.proofs.Common.{◌≡◌, true}
use Rattle.ground.specs.Bounded.{all_below}
use Rattle.rows.specs.Rows.{row_in}
use Rattle.order.specs.Order.{other_above}
use Rattle.order.proofs.others_above.Given as goal

abbrev pub invariant-loop-i : goal.invariant-loop-i
invariant-loop-i l = all_below l.i (other_above l.levels l.level l.v (row_in l.m l.p)) ≡ true
