use Rattle.ground.specs.Chain.{refuse}
use Rattle.turns.specs.Answers.{unless_drawn}
use Rattle.turns.proofs.ends.end_turn.Goals as goal

pub returns-then-not-holds_nothing : goal.returns-then-not-holds_nothing
unfolding unless_drawn refuse
returns-then-not-holds_nothing c = λ P s e. rw (e, rw c.holds_nothing.ensures at c.if-not-holds_nothing.true)

pub returns : goal.returns
unfolding unless_drawn refuse
returns c = λ P s e. rw (e, rw c.holds_nothing.ensures at c.if-not-holds_nothing.false, c.end.ensures)
