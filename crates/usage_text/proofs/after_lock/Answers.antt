use Rattle.usage_text.specs.Weights.{after_lock}
use Rattle.usage_text.proofs.after_lock.Goals as goal

pub returns : goal.returns
unfolding after_lock
returns c = cc
