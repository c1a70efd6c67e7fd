use borrow.Author.Tests.{lt-leb, le-leb}
use Rattle.ground.specs.Chain.{refuse}
use Rattle.threads.specs.Threads.{topped}
use Rattle.turns.specs.Answers.{unless_drawn}
use Rattle.turns.proofs.fields.get_turn.Goals as goal

pub returns-then-t-lt1 : goal.returns-then-t-lt1
unfolding unless_drawn refuse
returns-then-t-lt1 c = λ P s e f. rw (lt-leb _ _ c.if-t-lt1.true)

pub returns-then-not-may_be_object : goal.returns-then-not-may_be_object
unfolding unless_drawn refuse
returns-then-not-may_be_object c = λ P s e f. rw (le-leb _ _ c.if-t-lt1.false, ← c.top-x.ensures, f, rw c.may_be_object.ensures at c.if-not-may_be_object.true)

pub returns-then-is_null : goal.returns-then-is_null
unfolding refuse
returns-then-is_null c = λ P s e f. rw (le-leb _ _ c.if-t-lt1.false, ← c.top-x.ensures, rw (← f) at (rw c.may_be_object.ensures at c.if-not-may_be_object.false), ← c.is_null.ensures, c.if-is_null.true, ← c.ref_slot.ensures) (c.throw_turn.ensures P s e)

pub returns : goal.returns
unfolding unless_drawn refuse topped
returns c = λ P s e f. rw (c.went_on.ensures, c.object_of.ensures, le-leb _ _ c.if-t-lt1.false, ← c.top-x.ensures, f, rw c.may_be_object.ensures at c.if-not-may_be_object.false, ← c.is_null.ensures, c.if-is_null.false)
