use Rattle.runner.specs.Locks.{entered_in}
use borrow.Author.Tests.{le-leb, lt-leb}
use Rattle.runner.proofs.locks.enter.Goals as goal

pub returns-then-w-ge-NULL : goal.returns-then-w-ge-NULL
unfolding entered_in
returns-then-w-ge-NULL c = rw (← c.var-w.ensures, le-leb _ _ c.if-w-ge-NULL.true) c.throw.ensures

pub returns-then-held_by_other : goal.returns-then-held_by_other
unfolding entered_in
returns-then-held_by_other c = rw (← c.var-w.ensures, lt-leb _ _ c.if-w-ge-NULL.false, ← c.object_in-o.ensures, ← c.held_by_other.ensures, c.if-held_by_other.true)

pub returns : goal.returns
unfolding entered_in
returns c = rw (c.go.ensures, c.mark.ensures, ← c.var-w.ensures, lt-leb _ _ c.if-w-ge-NULL.false, ← c.object_in-o.ensures, ← c.held_by_other.ensures, c.if-held_by_other.false)
