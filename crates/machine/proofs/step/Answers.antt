use borrow.Author.Tests.{le-ltb}
use Rattle.ground.specs.Chain.{refuse}
use Rattle.machine.specs.Machine.{step_of}
use Rattle.machine.proofs.Ready.{read}
use Rattle.machine.proofs.step.Goals as goal

pub returns-then-is_err : goal.returns-then-is_err
unfolding step_of refuse
returns-then-is_err c = rw (read _ _ c.structure.ensures c.is_err.ensures.value, c.if-is_err.true)

pub returns-then-not-state_ok : goal.returns-then-not-state_ok
unfolding step_of refuse
returns-then-not-state_ok c = rw (read _ _ c.structure.ensures c.is_err.ensures.value, c.if-is_err.false, rw c.state_ok.ensures at c.if-not-state_ok.true)

pub returns-then-thread-ge8 : goal.returns-then-thread-ge8
unfolding step_of refuse
returns-then-thread-ge8 c = rw (read _ _ c.structure.ensures c.is_err.ensures.value, c.if-is_err.false, rw c.state_ok.ensures at c.if-not-state_ok.false, le-ltb _ _ c.if-thread-ge8.true)
