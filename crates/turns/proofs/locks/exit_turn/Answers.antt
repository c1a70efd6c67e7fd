use borrow.Author.Tests.{lt-ltb, le-ltb}
use Rattle.ground.specs.Chain.{refuse}
use Rattle.turns.specs.Answers.{unless_drawn}
use Rattle.turns.proofs.locks.exit_turn.Goals as goal

pub returns-then-not-is_ref : goal.returns-then-not-is_ref
unfolding unless_drawn refuse
returns-then-not-is_ref c = λ P s e. rw (← c.var-x.ensures, rw c.is_ref.ensures at c.if-not-is_ref.true)

pub returns-then-n-le0 : goal.returns-then-n-le0
unfolding unless_drawn refuse
returns-then-n-le0 c = λ P s e. rw (← c.var-x.ensures, rw c.is_ref.ensures at c.if-not-is_ref.false, ← c.object_of-o.ensures, e, ← c.count-n.ensures, le-ltb _ _ c.if-n-le0.true)

pub returns : goal.returns
unfolding unless_drawn refuse
returns c = λ P s e. rw (c.went_on.ensures, ← c.var-x.ensures, rw c.is_ref.ensures at c.if-not-is_ref.false, ← c.object_of-o.ensures, e, ← c.count-n.ensures, lt-ltb _ _ c.if-n-le0.false)
