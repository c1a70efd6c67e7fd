use native.Mathlib.Omega.{arith}
use Rattle.held.proofs.Word.{apart-is}
use Rattle.held.proofs.apart.Goals as goal

pub returns : goal.returns
returns c = apart-is c.args.w c.args.v (omega arith)
