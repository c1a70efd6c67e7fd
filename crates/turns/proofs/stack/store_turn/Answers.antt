use borrow.Author.Tests.{lt-leb, le-leb}
use Rattle.ground.specs.Chain.{refuse}
use Rattle.turns.specs.Answers.{unless_drawn}
use Rattle.turns.proofs.stack.store_turn.Goals as goal

pub returns-then-t-lt1 : goal.returns-then-t-lt1
unfolding unless_drawn refuse
returns-then-t-lt1 c = λ P s i. rw (lt-leb _ _ c.if-t-lt1.true)

pub returns : goal.returns
unfolding unless_drawn refuse
returns c = λ P s i. rw (c.went_on.ensures, c.pop-u.ensures, c.store.ensures, c.top.ensures, le-leb _ _ c.if-t-lt1.false)
