use Rattle.held.proofs.Word.{set_is, set_past}
use Rattle.held.proofs.set_bit.Goals as goal

pub returns-then-i-lt32 : goal.returns-then-i-lt32
returns-then-i-lt32 c = set_is c.args.w c.args.i c.if-i-lt32.true

pub returns-else-i-lt32 : goal.returns-else-i-lt32
returns-else-i-lt32 c = set_past c.args.w c.args.i c.if-i-lt32.false
