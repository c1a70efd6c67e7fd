use Rattle.std.proofs.Common.{arith}
use Rattle.classfile.proofs.Order.{none-past}
use Rattle.classfile.proofs.past.Goals as goal

pub returns-then-all-limit : goal.returns-then-all-limit
returns-then-all-limit c = none-past c.args.code.now c.args.limit (omega (arith, c.requires, c.if-all-limit.true))
