use Rattle.bundle.specs.Container.{head_at}
use Rattle.bundle.proofs.head_at.Goals as goal

pub returns : goal.returns
unfolding head_at
returns c = rw (c.word.ensures, c.byte.ensures, c.byte-2.ensures, c.byte-3.ensures, c.byte-4.ensures, c.word-2.ensures)
