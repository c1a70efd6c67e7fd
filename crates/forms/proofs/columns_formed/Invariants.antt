use Rattle.std.proofs.Common.{◌≡◌, true}
use Rattle.ground.specs.Bounded.{all_below}
use Rattle.forms.specs.Columns.{column_formed}
use Rattle.forms.proofs.columns_formed.Given as goal

abbrev pub invariant-loop-i : goal.invariant-loop-i
invariant-loop-i l = all_below l.i (column_formed l.m.classes l.m.class l.m.bytes.now) ≡ true
