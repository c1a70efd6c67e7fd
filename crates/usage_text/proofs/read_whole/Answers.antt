use Rattle.usage_text.specs.Reading.{read_text}
use Rattle.usage_text.proofs.Answers.{none-whole, some-whole, more-whole}
use Rattle.usage_text.proofs.read_whole.Goals as goal

pub returns-in_err-left : goal.returns-in_err-left
returns-in_err-left c = rw c.from_residual.ensures (none-whole (read_text c.args.depth c.args.text.now) c.read_choice.ensures c.in_err-left.was)

pub returns-then-left-ne0 : goal.returns-then-left-ne0
returns-then-left-ne0 c = more-whole (read_text c.args.depth c.args.text.now) c.read_choice.ensures c.in_ok-left.was c.if-left-ne0.true

pub returns : goal.returns
returns c = some-whole (read_text c.args.depth c.args.text.now) c.read_choice.ensures c.in_ok-left.was c.if-left-ne0.false
