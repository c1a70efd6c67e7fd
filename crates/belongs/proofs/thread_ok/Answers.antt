use Rattle.belongs.specs.Belongs.{thread_ok}
use Rattle.belongs.proofs.thread_ok.Goals as goal

pub returns-then-not-t : goal.returns-then-not-t
unfolding thread_ok
returns-then-not-t c = rw c.if-not-t.true

pub returns : goal.returns
unfolding thread_ok
returns c = rw c.if-not-t.false c.live_ok.ensures
