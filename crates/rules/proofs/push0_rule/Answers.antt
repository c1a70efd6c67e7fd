use mathlib.Core.Path.{refl}
use Rattle.rules.specs.Rules.{push0_rule}
use Rattle.rules.proofs.Judging.{answer-unmet, answer-short, answer-fits, short-then, fits-then}
use Rattle.rules.proofs.push0_rule.Goals as goal

pub returns-in_err-asked : goal.returns-in_err-asked
returns-in_err-asked c = answer-unmet _ _ c.push0_met.ensures _ c.in_err-asked.ensures c.from_residual.ensures.1

pub returns-in_err-int_edge : goal.returns-in_err-int_edge
unfolding push0_rule
returns-in_err-int_edge c = answer-short _ _ c.push0_met.ensures _ _ c.in_ok-asked.ensures (short-then _ _ c.in_err-int_edge.ensures) c.from_residual-in_err-int_edge.ensures.1

pub returns : goal.returns
unfolding push0_rule
returns c = answer-fits _ _ c.push0_met.ensures c.in_ok-asked.ensures (fits-then c.in_ok-int_edge.ensures refl)
