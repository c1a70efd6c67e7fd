use Rattle.entries.proofs.Words.{same_word}
use borrow.Author.Tests.{eqb-true}
use Rattle.matching.proofs.var_kept.Goals as goal

pub returns : goal.returns
returns c q = rw (← c.variable_word.ensures.1, ← c.variable_word-2.ensures.1) (same_word _ _ _ (eqb-true _ _ q))
