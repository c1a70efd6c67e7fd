use Rattle.std.proofs.Common.{◌≡◌, true}
use Rattle.ground.specs.Bounded.{all_below}
use Rattle.rows.specs.Rows.{row_in}
use Rattle.forms.specs.Forms.{entry_formed}
use Rattle.forms.proofs.stack_formed.Given as goal

abbrev pub invariant-loop-j : goal.invariant-loop-j
invariant-loop-j l = all_below l.j (entry_formed (row_in l.m l.p)) ≡ true
