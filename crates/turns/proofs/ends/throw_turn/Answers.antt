use borrow.Author.Tests.{ne_eqb, lt-leb, le-leb}
use Rattle.ground.specs.Chain.{refuse}
use Rattle.turns.specs.Answers.{unless_drawn}
use Rattle.turns.proofs.ends.throw_turn.Goals as goal

pub returns-then-k-lt1 : goal.returns-then-k-lt1
unfolding unless_drawn refuse
returns-then-k-lt1 c = λ P s e. rw (ne_eqb _ _ c.if-h-eq0.false, lt-leb _ _ c.if-k-lt1.true)

pub returns : goal.returns
unfolding unless_drawn refuse
returns c = λ P s e. rw (c.went_to.ensures, c.push.ensures, c.pop.ensures, ne_eqb _ _ c.if-h-eq0.false, le-leb _ _ c.if-k-lt1.false)
