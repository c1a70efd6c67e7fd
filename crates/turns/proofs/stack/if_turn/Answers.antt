use borrow.Author.Tests.{lt-leb, le-leb}
use Rattle.ground.specs.Chain.{refuse}
use Rattle.turns.specs.Answers.{unless_drawn}
use Rattle.turns.proofs.stack.if_turn.Goals as goal

pub returns-then-t-lt1 : goal.returns-then-t-lt1
unfolding unless_drawn refuse
returns-then-t-lt1 c = λ P s i. rw (lt-leb _ _ c.if-t-lt1.true)

pub returns-then-not-is_int : goal.returns-then-not-is_int
unfolding unless_drawn refuse
returns-then-not-is_int c = λ P s i. rw (le-leb _ _ c.if-t-lt1.false, rw (c.is_int.ensures, c.top-x.ensures) at c.if-not-is_int.true)

pub returns-then-jumps : goal.returns-then-jumps
unfolding unless_drawn refuse
returns-then-jumps c = λ P s i. rw (c.went_to.ensures, c.pop-u.ensures, le-leb _ _ c.if-t-lt1.false, rw (c.is_int.ensures, c.top-x.ensures) at c.if-not-is_int.false, rw (c.jumps.ensures, c.top-x.ensures) at c.if-jumps.true)

pub returns : goal.returns
unfolding unless_drawn refuse
returns c = λ P s i. rw (c.went_on.ensures, c.pop-u.ensures, le-leb _ _ c.if-t-lt1.false, rw (c.is_int.ensures, c.top-x.ensures) at c.if-not-is_int.false, rw (c.jumps.ensures, c.top-x.ensures) at c.if-jumps.false)
