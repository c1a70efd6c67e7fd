use mathlib.Core.Path.{refl}
use Rattle.instructions.specs.Limits.{operand_limit}
use Rattle.instructions.proofs.operand_limit.Goals as goal

pub returns : goal.returns
unfolding operand_limit
returns c = refl
