use native.Mathlib.Omega.{arith}
use Rattle.held.proofs.Word.{ones-bits}
use Rattle.held.proofs.bits_set.Goals as goal

pub returns : goal.returns
returns c = ones-bits c.args.w (omega arith)
