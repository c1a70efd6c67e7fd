use borrow.Author.Tests.{lt-ltb, le-ltb}
use Rattle.ground.specs.Chain.{refuse}
use Rattle.turns.specs.Answers.{unless_drawn}
use Rattle.turns.proofs.ends.make_turn.Goals as goal

pub returns-then-limit-t : goal.returns-then-limit-t
unfolding unless_drawn refuse
returns-then-limit-t c = λ P s i e. rw (le-ltb _ _ c.if-limit-t.true)

pub returns : goal.returns
unfolding unless_drawn refuse
returns c = λ P s i e. rw (c.went_on.ensures, c.push-u.ensures, c.ref_slot.ensures, e, lt-ltb _ _ c.if-limit-t.false)
