use mathlib.Core.Path.{sym, ◌∙◌}
use Rattle.std.proofs.Common.{rules}
use Rattle.pairs.proofs.Works.{sought-over, sought-judged}
use Rattle.pairs.proofs.sought.Goals as goal

pub returns-then-is_ok : goal.returns-then-is_ok
returns-then-is_ok c = rw c.is_ok-then-is_ok.ensures.value (sought-judged _ _ _ (search rules) c.clear_all.ensures c.settle.result (sym c.is_ok.ensures.value ∙ c.if-is_ok.true) c.settle.ensures c.verify.result c.verify.ensures)

pub returns-else-is_ok : goal.returns-else-is_ok
returns-else-is_ok c = rw c.if-is_ok.false (sought-over _ _ _ (search rules) c.clear_all.ensures c.settle.result (sym c.is_ok.ensures.value ∙ c.if-is_ok.false) c.settle.ensures)
