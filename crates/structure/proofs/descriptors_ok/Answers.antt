use mathlib.Core.Path.{sym}
use Rattle.ground.proofs.Bounded.{all_left}
use Rattle.structure.specs.Conditions.{descriptors_ok}
use Rattle.structure.proofs.descriptors_ok.Goals as goal

pub returns-then-not-descriptor_ok : goal.returns-then-not-descriptor_ok
unfolding descriptors_ok
returns-then-not-descriptor_ok c = all_left _ _ _ c.loop-i-test.true (sym c.if-not-descriptor_ok.ensures)
