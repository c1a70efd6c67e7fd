use borrow.Author.Tests.{lt-leb, le-leb}
use Rattle.state_bytes.specs.Format.{is_thread}
use Rattle.state_bytes.proofs.is_thread.Goals as goal

pub returns-then-byte-gt1 : goal.returns-then-byte-gt1
unfolding is_thread
returns-then-byte-gt1 c = rw (rw c.byte.ensures at (lt-leb _ _ c.if-byte-gt1.true))

pub returns : goal.returns
unfolding is_thread
returns c = rw (rw c.byte.ensures at (le-leb _ _ c.if-byte-gt1.false)) c.are_places.ensures
