use borrow.Author.Tests.{lt-ltb, le-ltb}
use Rattle.ground.specs.Chain.{refuse}
use Rattle.turns.specs.Answers.{unless_drawn}
use Rattle.turns.proofs.locks.enter_turn.Goals as goal

pub returns-then-is_int : goal.returns-then-is_int
unfolding unless_drawn refuse
returns-then-is_int c = λ P s e. rw (rw (c.is_int.ensures, c.var-x.ensures) at c.if-is_int.true)

pub returns-then-is_null : goal.returns-then-is_null
unfolding unless_drawn refuse
returns-then-is_null c = λ P s e. rw (← c.var-x.ensures, ← c.is_int.ensures, c.if-is_int.false, ← c.is_null.ensures, c.if-is_null.true, ← c.ref_slot.ensures) (c.throw_turn.ensures P s e)

pub returns-then-n-ge2047 : goal.returns-then-n-ge2047
unfolding unless_drawn refuse
returns-then-n-ge2047 c = λ P s e. rw (← c.var-x.ensures, ← c.is_int.ensures, c.if-is_int.false, ← c.is_null.ensures, c.if-is_null.false, ← c.object_of-o.ensures, e, ← c.count-n.ensures, le-ltb _ _ c.if-n-ge2047.true)

pub returns-then-not-others_free : goal.returns-then-not-others_free
unfolding unless_drawn refuse
returns-then-not-others_free c = λ P s e. rw (← c.var-x.ensures, ← c.is_int.ensures, c.if-is_int.false, ← c.is_null.ensures, c.if-is_null.false, ← c.object_of-o.ensures, e, ← c.count-n.ensures, lt-ltb _ _ c.if-n-ge2047.false, rw c.others_free.ensures at c.if-not-others_free.true)

pub returns : goal.returns
unfolding unless_drawn refuse
returns c = λ P s e. rw (c.went_on.ensures, ← c.var-x.ensures, ← c.is_int.ensures, c.if-is_int.false, ← c.is_null.ensures, c.if-is_null.false, ← c.object_of-o.ensures, e, ← c.count-n.ensures, lt-ltb _ _ c.if-n-ge2047.false, rw c.others_free.ensures at c.if-not-others_free.false)
