use Rattle.held.proofs.Word.{clear-is, clear-past}
use Rattle.held.proofs.clear_bit.Goals as goal

pub returns-then-i-lt32 : goal.returns-then-i-lt32
returns-then-i-lt32 c = clear-is c.args.w c.args.i c.if-i-lt32.true

pub returns-else-i-lt32 : goal.returns-else-i-lt32
returns-else-i-lt32 c = clear-past c.args.w c.args.i c.if-i-lt32.false
