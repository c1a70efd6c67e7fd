use Rattle.entries.proofs.Words.{blank-word}
use Rattle.entries.proofs.is_blank.Goals as goal

pub returns : goal.returns
returns c = blank-word _ _
