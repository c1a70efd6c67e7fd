use Rattle.std.proofs.Common.{◌≡◌, true}
use Rattle.ground.specs.Bounded.{all_below}
use Rattle.rows.specs.Rows.{row_in}
use Rattle.forms.specs.Forms.{var_formed}
use Rattle.forms.proofs.vars_formed.Given as goal

abbrev pub invariant-loop-i : goal.invariant-loop-i
invariant-loop-i l = all_below l.i (var_formed (row_in l.m l.p)) ≡ true
