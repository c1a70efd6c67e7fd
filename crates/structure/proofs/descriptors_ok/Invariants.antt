use mathlib.Core.Path.{◌≡◌}
use mathlib.Core.Bool.{true}
use Rattle.ground.specs.Bounded.{all_below}
use Rattle.structure.specs.Conditions.{descriptor_ok}
use Rattle.structure.proofs.descriptors_ok.Given as goal

abbrev pub invariant-loop-i : goal.invariant-loop-i
invariant-loop-i l = all_below l.i (descriptor_ok l.m.classes l.m.bytes.now) ≡ true
