use Rattle.std.proofs.Common.{◌≡◌, true}
use Rattle.ground.specs.Bounded.{all_below}
use Rattle.forms.specs.Forms.{entry_formed}
use Rattle.shape.specs.Shape.{row_aside}
use Rattle.shape.proofs.stack_shaped.Given as goal

abbrev pub invariant-loop-j : goal.invariant-loop-j
invariant-loop-j l = all_below l.j (entry_formed (row_aside l.m.classes l.m.class l.m.bytes.now l.p)) ≡ true
