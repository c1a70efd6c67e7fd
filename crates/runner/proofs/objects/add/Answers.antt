use Rattle.runner.specs.Objects.{added_in}
use mathlib.Core.Path.{refl}
use Rattle.runner.proofs.objects.add.Goals as goal

pub returns : goal.returns
unfolding added_in
returns c = refl
