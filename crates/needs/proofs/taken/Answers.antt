use Rattle.needs.specs.Needs.{taken}
use borrow.Author.Tests.{lt-ltb, le-ltb}
use Rattle.needs.proofs.taken.Goals as goal

pub returns-then-j-a : goal.returns-then-j-a
unfolding taken
returns-then-j-a c = rw (lt-ltb _ _ c.if-j-a.true)

pub returns : goal.returns
unfolding taken
returns c = rw (le-ltb _ _ c.if-j-a.false) c.stacked.ensures
