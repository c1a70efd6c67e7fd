use Rattle.usage_text.specs.Weights.{either_of}
use Rattle.usage_text.proofs.either_of.Goals as goal

pub returns : goal.returns
unfolding either_of
returns c = cc
