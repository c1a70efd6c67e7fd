use mathlib.Core.Path.{refl}
use Rattle.rules.specs.Rules.{inc_rule}
use Rattle.rules.proofs.Judging.{answer-unmet, answer-short, answer-fits, short-then, fits-then}
use Rattle.rules.proofs.inc_rule.Goals as goal

pub returns-in_err-asked : goal.returns-in_err-asked
returns-in_err-asked c = answer-unmet _ _ c.inc_met.ensures _ c.in_err-asked.ensures c.from_residual.ensures.1

pub returns-in_err-counted_edge : goal.returns-in_err-counted_edge
unfolding inc_rule
returns-in_err-counted_edge c = answer-short _ _ c.inc_met.ensures _ _ c.in_ok-asked.ensures (short-then _ _ c.in_err-counted_edge.ensures) c.from_residual-in_err-counted_edge.ensures.1

pub returns : goal.returns
unfolding inc_rule
returns c = answer-fits _ _ c.inc_met.ensures c.in_ok-asked.ensures (fits-then c.in_ok-counted_edge.ensures refl)
