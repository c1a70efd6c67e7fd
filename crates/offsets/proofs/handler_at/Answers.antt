use borrow.Author.Tests.{lt-ltb, le-ltb}
use Rattle.ground.specs.Chain.{refuse}
use Rattle.offsets.specs.Handlers.{handler_of}
use Rattle.offsets.proofs.handler_at.Goals as goal

pub returns-then-table-i : goal.returns-then-table-i
unfolding handler_of refuse
returns-then-table-i c = rw (le-ltb _ _ c.if-table-i.true)

pub returns : goal.returns
unfolding handler_of refuse
returns c = rw (lt-ltb _ _ c.if-table-i.false) c.word.ensures
