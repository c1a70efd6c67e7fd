use Rattle.std.proofs.Common.{◌≡◌, true}
use Rattle.ground.specs.Bounded.{all_below}
use Rattle.forms.specs.Forms.{var_formed}
use Rattle.shape.specs.Shape.{row_aside}
use Rattle.shape.proofs.vars_shaped.Given as goal

abbrev pub invariant-loop-i : goal.invariant-loop-i
invariant-loop-i l = all_below l.i (var_formed (row_aside l.m.classes l.m.class l.m.bytes.now l.p)) ≡ true
