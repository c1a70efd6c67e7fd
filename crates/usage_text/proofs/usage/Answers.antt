use Rattle.std.proofs.Common.{◌∙◌}
use Rattle.usage_text.proofs.Answers.{whole-low, too_long, is_usage, too_deep, not-usage}
use Rattle.usage_text.proofs.usage.Goals as goal

pub returns-then-text-gt256 : goal.returns-then-text-gt256
returns-then-text-gt256 c = too_long c.args.text.now c.if-text-gt256.true

pub answer-requires : goal.answer-requires
answer-requires c = whole-low _ c.args.text.now c.if-text-gt256.false c.read_whole.ensures c.in-Some.is

pub returns-in-Some : goal.returns-in-Some
returns-in-Some c = c.answer.ensures ∙ is_usage c.args.text.now c.if-text-gt256.false c.read_whole.ensures c.in-Some.is

pub returns-in-Some-read_whole : goal.returns-in-Some-read_whole
returns-in-Some-read_whole c = too_deep c.args.text.now c.if-text-gt256.false c.read_whole.ensures c.in_default.is c.read_whole-2.ensures c.in-Some-read_whole.is

pub returns-in-None : goal.returns-in-None
returns-in-None c = not-usage c.args.text.now c.if-text-gt256.false c.read_whole.ensures c.in_default.is c.read_whole-2.ensures c.in-None.is
