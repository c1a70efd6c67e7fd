use Rattle.exports.specs.Runs.{packed_ran}
use Rattle.exports.proofs.runs.pack_ran.Goals as goal

pub returns-in-Ok : goal.returns-in-Ok
unfolding packed_ran
returns-in-Ok c = rw c.in-Ok.is

pub returns-in-Err : goal.returns-in-Err
unfolding packed_ran
returns-in-Err c = rw (c.in-Err.is, c.pack.ensures, c.numbers.ensures)
