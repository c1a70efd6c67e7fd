use mathlib.Core.Path.{ap}
use Rattle.ground.proofs.Bools.{failed}
use Rattle.threads.specs.declared.Thread.{Thread}
use Rattle.history.specs.Meeting.{object_met, instruction_met}
use Rattle.history.proofs.Meeting.{met-is}
use Rattle.history.proofs.meets.Goals as goal

pub returns-then-not-t : goal.returns-then-not-t
unfolding instruction_met object_met
returns-then-not-t c = rw (failed (ap (λ (t : Thread). t.live) c.thread-t.ensures) c.if-not-t.true)

pub returns : goal.returns
returns c =
    let a = c.args in
    met-is a.b.now a.s a.thread c.thread-t.ensures c.if-not-t.false c.record_at-m.ensures.numbers c.record_at-m.ensures.bytes c.code_at-x.ensures c.object_met.ensures
