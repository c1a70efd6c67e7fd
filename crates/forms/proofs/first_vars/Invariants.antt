use Rattle.std.proofs.Common.{◌≡◌, true}
use Rattle.ground.specs.Bounded.{all_below}
use Rattle.ground.specs.Bytes.{at}
use Rattle.rows.specs.Rows.{row_in}
use Rattle.forms.specs.Forms.{first_var}
use Rattle.forms.proofs.first_vars.Given as goal

abbrev pub invariant-loop-i : goal.invariant-loop-i
invariant-loop-i l = all_below l.i (first_var l.m.class.args (at l.m.bytes.now) (row_in l.m l.p)) ≡ true
