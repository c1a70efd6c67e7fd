use borrow.Author.Tests.{lt-leb, le-leb}
use Rattle.ground.specs.Chain.{refuse}
use Rattle.turns.specs.Answers.{unless_drawn}
use Rattle.turns.proofs.ends.athrow_turn.Goals as goal

pub returns-then-t-lt1 : goal.returns-then-t-lt1
unfolding unless_drawn refuse
returns-then-t-lt1 c = λ P s e f. rw (lt-leb _ _ c.if-t-lt1.true)

pub returns-then-not-is_object : goal.returns-then-not-is_object
unfolding unless_drawn refuse
returns-then-not-is_object c = λ P s e f. rw (le-leb _ _ c.if-t-lt1.false, ← c.top-x.ensures, f, rw c.is_object.ensures at c.if-not-is_object.true)

pub returns : goal.returns
unfolding refuse
returns c = λ P s e f. rw (le-leb _ _ c.if-t-lt1.false, ← c.top-x.ensures, rw (← f) at (rw c.is_object.ensures at c.if-not-is_object.false)) (c.throw_turn.ensures P s e)
