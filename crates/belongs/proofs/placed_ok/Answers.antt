use mathlib.Core.Path.{ap}
use mathlib.Core.Bool.{not}
use borrow.Author.Tests.{le-leb, lt-leb}
use Rattle.ground.proofs.Bools.{passed, failed}
use Rattle.belongs.specs.Belongs.{placed_ok}
use Rattle.belongs.proofs.placed_ok.Goals as goal

pub returns-then-at-lt1 : goal.returns-then-at-lt1
unfolding placed_ok
returns-then-at-lt1 c = rw (lt-leb _ _ c.if-at-lt1.true)

pub returns-then-k-at : goal.returns-then-k-at
unfolding placed_ok
returns-then-k-at c = rw (le-leb _ _ c.if-at-lt1.false, lt-leb _ _ c.if-k-at.true)

pub returns-then-k-t : goal.returns-then-k-t
unfolding placed_ok
returns-then-k-t c = rw (le-leb _ _ c.if-at-lt1.false, le-leb _ _ c.if-k-at.false, lt-leb _ _ c.if-k-t.true)

pub returns-then-not-places_refer : goal.returns-then-not-places_refer
unfolding placed_ok
returns-then-not-places_refer c = rw (le-leb _ _ c.if-at-lt1.false, le-leb _ _ c.if-k-at.false, le-leb _ _ c.if-k-t.false, failed c.places_refer.ensures (ap not c.if-not-places_refer.true))

pub returns : goal.returns
unfolding placed_ok
returns c = rw (le-leb _ _ c.if-at-lt1.false, le-leb _ _ c.if-k-at.false, le-leb _ _ c.if-k-t.false, passed c.places_refer.ensures (ap not c.if-not-places_refer.false)) c.places_refer-2.ensures
