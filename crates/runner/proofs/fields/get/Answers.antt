use Rattle.runner.specs.Fields.{got_in}
use borrow.Author.Tests.{le-leb, lt-leb}
use Rattle.runner.proofs.fields.get.Goals as goal

pub returns-then-w-ge-NULL : goal.returns-then-w-ge-NULL
unfolding got_in
returns-then-w-ge-NULL c = rw (← c.top-w.ensures, le-leb _ _ c.if-w-ge-NULL.true) c.throw.ensures

pub returns : goal.returns
unfolding got_in
returns c = rw (c.set_top.ensures, c.place-k.ensures, c.object_in.ensures, ← c.top-w.ensures, lt-leb _ _ c.if-w-ge-NULL.false)
