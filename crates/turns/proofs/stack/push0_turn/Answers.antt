use borrow.Author.Tests.{lt-ltb, le-ltb}
use Rattle.ground.specs.Chain.{refuse}
use Rattle.turns.specs.Answers.{unless_drawn}
use Rattle.turns.proofs.stack.push0_turn.Goals as goal

pub returns-then-limit-t : goal.returns-then-limit-t
unfolding unless_drawn refuse
returns-then-limit-t c = λ P s i. rw (le-ltb _ _ c.if-limit-t.true)

pub returns : goal.returns
unfolding unless_drawn refuse
returns c = λ P s i. rw (c.went_on.ensures, c.push-u.ensures, c.zero_slot.ensures, lt-ltb _ _ c.if-limit-t.false)
