use mathlib.Core.Path.{◌≡◌}
use mathlib.Core.Bool.{true, false, ◌&&◌}
use borrow.Author.Tests.{lt-leb, le-leb}
use Rattle.ground.specs.Chain.{refuse}
use Rattle.turns.specs.Answers.{unless_drawn}
use Rattle.turns.proofs.fields.put_turn.Goals as goal

pub returns-then-t-lt2 : goal.returns-then-t-lt2
unfolding unless_drawn refuse
returns-then-t-lt2 c = λ P s e f. rw (lt-leb _ _ c.if-t-lt2.true)

pub returns-then-not-is_field_value-may_be_object : goal.returns-then-not-is_field_value-may_be_object
unfolding unless_drawn refuse
returns-then-not-is_field_value-may_be_object c = λ P s e f.
    let w : (c.is_field_value.result && c.may_be_object.result) ≡ false = c.if-not-is_field_value-may_be_object.true in
    rw (le-leb _ _ c.if-t-lt2.false, ← c.top-x.ensures, ← c.from_top-y.ensures, f, ← c.is_field_value.ensures, ← c.may_be_object.ensures, w)

pub returns-then-is_null : goal.returns-then-is_null
unfolding refuse
returns-then-is_null c = λ P s e f.
    let w : (c.is_field_value.result && c.may_be_object.result) ≡ true = c.if-not-is_field_value-may_be_object.false in
    rw (le-leb _ _ c.if-t-lt2.false, ← c.top-x.ensures, ← c.from_top-y.ensures, ← (rw (← f) at c.is_field_value.ensures), ← (rw (← f) at c.may_be_object.ensures), w, ← c.is_null.ensures, c.if-is_null.true, ← c.ref_slot.ensures) (c.throw_turn.ensures P s e)

pub returns : goal.returns
unfolding unless_drawn refuse
returns c = λ P s e f.
    let w : (c.is_field_value.result && c.may_be_object.result) ≡ true = c.if-not-is_field_value-may_be_object.false in
    rw (c.went_on.ensures, c.pop-u.ensures, c.object_of.ensures, le-leb _ _ c.if-t-lt2.false, ← c.top-x.ensures, ← c.from_top-y.ensures, f, ← c.is_field_value.ensures, ← c.may_be_object.ensures, w, ← c.is_null.ensures, c.if-is_null.false)
