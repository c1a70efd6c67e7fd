use mathlib.Core.Path.{◌≡◌, refl}
use mathlib.Core.Bool.{true, false}
use borrow.Author.Tests.{le-ltb}
use Rattle.ground.proofs.Bools.{passed, failed}
use Rattle.ground.specs.Chain.{refuse}
use Rattle.turns.proofs.Does.{does}
use Rattle.turns.proofs.turn_of.Goals as goal

pub returns-then-not-t : goal.returns-then-not-t
unfolding refuse
returns-then-not-t c = λ s o e f.
    let dead : c.args.t.live ≡ false = failed refl c.if-not-t.true in
    rw (dead)

pub returns-then-t-ge65535 : goal.returns-then-t-ge65535
unfolding refuse
returns-then-t-ge65535 c = λ s o e f.
    let live : c.args.t.live ≡ true = passed refl c.if-not-t.false in
    rw (live, le-ltb _ _ c.if-t-ge65535.true)

pub returns : goal.returns
returns c = λ s o e f.
    does _ s _ _ _ c.if-not-t.false c.if-t-ge65535.false
    c.record_at-m.ensures.numbers c.record_at-m.ensures.bytes c.instruction_at.ensures
    (λ m l v. c.exec.ensures m s l v o e f)
