use native.Mathlib.Omega.{arith}
use Rattle.rows.proofs.Rows.{stack-none}
use Rattle.rows.proofs.Row.stack.Goals as goal

pub returns-then-self-j-clause-word : goal.returns-then-self-j-clause-word
returns-then-self-j-clause-word c k e f = (stack-none 0 c.args.self.now.part.now k _ _ (omega (arith, f, c.if-self-j.true))).0

pub returns-then-self-j-clause-entry : goal.returns-then-self-j-clause-entry
returns-then-self-j-clause-entry c n k e f = (stack-none n c.args.self.now.part.now k _ _ (omega (arith, f, c.if-self-j.true))).1
