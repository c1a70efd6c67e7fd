use Rattle.entries.proofs.Words.{same_word}
use Rattle.matching.proofs.word_short.Goals as goal

pub returns-then-w-v : goal.returns-then-w-v
returns-then-w-v c = same_word _ _ _ c.if-w-v.true
