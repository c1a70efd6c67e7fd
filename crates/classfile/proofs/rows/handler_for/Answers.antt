use borrow.Author.Tests.{lt-ltb, le-ltb}
use Rattle.std.proofs.Common.{arith}
use Rattle.offsets.specs.Handlers.{entries}
use Rattle.classfile.specs.Written.{handler_by}
use Rattle.classfile.proofs.rows.handler_for.Goals as goal

pub returns-in-Some : goal.returns-in-Some
unfolding handler_by
returns-in-Some c =
    let h = c.in-Some.ensures in
    rw (← h.1, lt-ltb _ _ h.0, ← c.handler_at.ensures) c.address.ensures

pub returns-in-None : goal.returns-in-None
unfolding handler_by
returns-in-None c = rw (← c.in-None.ensures, le-ltb (entries c.args.m.now.table.now) (entries c.args.m.now.table.now) (omega arith))
