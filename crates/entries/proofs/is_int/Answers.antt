use Rattle.entries.proofs.Words.{int_word}
use Rattle.entries.proofs.is_int.Goals as goal

pub returns : goal.returns
returns c = int_word _ _
