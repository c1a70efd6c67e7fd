use Rattle.ground.specs.Chain.{refuse}
use Rattle.bundle.specs.Program.{program_of}
use Rattle.machine.specs.Machine.{fresh_of}
use Rattle.machine.proofs.Ready.{read}
use Rattle.machine.proofs.fresh.Goals as goal

pub returns-then-is_err : goal.returns-then-is_err
unfolding fresh_of refuse
returns-then-is_err c = rw (c.empty_state-s.ensures, read _ _ c.structure.ensures c.is_err.ensures.value, c.if-is_err.true)

pub returns : goal.returns
unfolding fresh_of refuse program_of
returns c = rw (c.put_thread.ensures, c.main_thread.ensures, c.add_object.ensures, c.first_fields-first.ensures, c.exception-c.ensures, c.empty_state-s.ensures, read _ _ c.structure.ensures c.is_err.ensures.value, c.if-is_err.false)
