use mathlib.Core.Path.{refl}
use Rattle.rules.specs.Rules.{exit_rule}
use Rattle.rules.proofs.Judging.{answer-unmet, answer-short, answer-fits, short-then, fits-then}
use Rattle.rules.proofs.exit_rule.Goals as goal

pub returns-in_err-asked : goal.returns-in_err-asked
returns-in_err-asked c = answer-unmet _ _ c.exit_met.ensures _ c.in_err-asked.ensures c.from_residual.ensures.1

pub returns-in_err-exited_edge : goal.returns-in_err-exited_edge
unfolding exit_rule
returns-in_err-exited_edge c = answer-short _ _ c.exit_met.ensures _ _ c.in_ok-asked.ensures (short-then _ _ c.in_err-exited_edge.ensures) c.from_residual-in_err-exited_edge.ensures.1

pub returns : goal.returns
unfolding exit_rule
returns c = answer-fits _ _ c.exit_met.ensures c.in_ok-asked.ensures (fits-then c.in_ok-exited_edge.ensures refl)
