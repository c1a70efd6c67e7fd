use Rattle.std.proofs.Common.{◌≡◌, true}
use Rattle.ground.specs.Bounded.{all_below}
use Rattle.rows.specs.Rows.{row_in}
use Rattle.order.specs.Order.{entry_above}
use Rattle.order.proofs.stack_above.Given as goal

abbrev pub invariant-loop-j : goal.invariant-loop-j
invariant-loop-j l = all_below l.j (entry_above l.levels l.level (row_in l.m l.p)) ≡ true
