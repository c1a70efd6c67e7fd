use mathlib.Core.Path.{sym}
use Rattle.state_written.proofs.Writing.{written_one}
use Rattle.state_written.proofs.laid.U8Laid.put.Goals as goal

pub returns : goal.returns
returns c = sym (written_one _ _ _)
