use borrow.Author.Tests.{lt-ltb, le-ltb}
use Rattle.threads.specs.Threads.{pushed}
use Rattle.threads.proofs.push.Goals as goal

pub returns-then-d-lt16 : goal.returns-then-d-lt16
unfolding pushed
returns-then-d-lt16 c = rw (lt-ltb _ _ c.if-d-lt16.true)

pub returns : goal.returns
unfolding pushed
returns c = rw (le-ltb _ _ c.if-d-lt16.false)
