use Rattle.runner.specs.Fields.{put_in}
use borrow.Author.Tests.{le-leb, lt-leb}
use Rattle.runner.proofs.fields.put.Goals as goal

pub returns-then-w-ge-NULL : goal.returns-then-w-ge-NULL
unfolding put_in
returns-then-w-ge-NULL c = rw (← c.under-w.ensures, le-leb _ _ c.if-w-ge-NULL.true) c.throw.ensures

pub returns : goal.returns
unfolding put_in
returns c = rw (c.drop.ensures, c.top.ensures, c.place-k.ensures, c.object_in.ensures, ← c.under-w.ensures, lt-leb _ _ c.if-w-ge-NULL.false)
