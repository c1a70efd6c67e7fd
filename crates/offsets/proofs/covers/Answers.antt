use Rattle.offsets.specs.Handlers.{covers}
use Rattle.offsets.proofs.covers.Goals as goal

pub returns : goal.returns
unfolding covers
returns c = rw (← c.word.ensures, ← c.word-2.ensures)
