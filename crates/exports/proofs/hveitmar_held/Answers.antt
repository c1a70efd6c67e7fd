use Rattle.std.proofs.Common.{◌+◌, ◌*◌, ap, not, arith}
use Rattle.ground.proofs.Bools.{passed, failed}
use Rattle.holding.specs.Question.{Holding}
use Rattle.exports.specs.Exports.{packed_held}
use Rattle.exports.proofs.hveitmar_held.Goals as goal

pub returns-then-not-is_state : goal.returns-then-not-is_state
unfolding packed_held
returns-then-not-is_state c = rw (failed c.is_state.ensures (ap not c.if-not-is_state.true))

pub returns-in-Ok : goal.returns-in-Ok
unfolding packed_held
returns-in-Ok c =
    let e = ap (λ (h : Holding). 256 * h.answer + h.number) c.in-Ok.ensures.number in
    rw (passed c.is_state.ensures (ap not c.if-not-is_state.false), ← c.state.ensures) (omega (arith, e))

pub returns-in-Err : goal.returns-in-Err
unfolding packed_held
returns-in-Err c =
    let e = ap (λ (h : Holding). 256 * h.answer + h.number) c.in-Err.ensures.number in
    rw (passed c.is_state.ensures (ap not c.if-not-is_state.false), ← c.state.ensures) (omega (arith, e, c.number.ensures))
