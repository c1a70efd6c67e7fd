use Rattle.java.specs.Classes.{is_index}
use Rattle.java.proofs.is_index.Goals as goal

pub returns : goal.returns
unfolding is_index
returns c = rw c.word.ensures
