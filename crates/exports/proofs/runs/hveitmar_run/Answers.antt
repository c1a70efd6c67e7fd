use borrow.Author.Tests.{le-leb, lt-leb}
use Rattle.ground.specs.Chain.{refuse}
use Rattle.exports.specs.Runs.{run_number, run_bytes}
use Rattle.exports.proofs.runs.hveitmar_run.Goals as goal

pub returns-then-out-lt-LENGTH : goal.returns-then-out-lt-LENGTH
unfolding run_number run_bytes refuse
returns-then-out-lt-LENGTH c = let e = lt-leb _ _ c.if-out-lt-LENGTH.true in (rw e, rw e)

pub returns : goal.returns
unfolding run_number run_bytes refuse
returns c =
    let e = le-leb _ _ c.if-out-lt-LENGTH.false in
    (rw (e, c.pack_ran.ensures, c.run-ran.ensures), rw (e, c.lay.ensures, c.bytes.ensures, c.last_state.ensures, c.run-ran.ensures))
