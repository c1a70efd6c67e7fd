use Rattle.entries.proofs.Words.{top-word}
use Rattle.entries.proofs.is_top.Goals as goal

pub returns : goal.returns
returns c = top-word _ _
