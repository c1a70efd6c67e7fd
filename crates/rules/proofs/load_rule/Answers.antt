use mathlib.Core.Path.{refl}
use Rattle.rules.specs.Rules.{load_rule}
use Rattle.rules.proofs.Judging.{answer-unmet, answer-short, answer-fits, short-then, fits-then}
use Rattle.rules.proofs.load_rule.Goals as goal

pub returns-in_err-asked : goal.returns-in_err-asked
returns-in_err-asked c = answer-unmet _ _ c.load_met.ensures _ c.in_err-asked.ensures c.from_residual.ensures.1

pub returns-in_err-loaded_edge : goal.returns-in_err-loaded_edge
unfolding load_rule
returns-in_err-loaded_edge c = answer-short _ _ c.load_met.ensures _ _ c.in_ok-asked.ensures (short-then _ _ c.in_err-loaded_edge.ensures) c.from_residual-in_err-loaded_edge.ensures.1

pub returns : goal.returns
unfolding load_rule
returns c = answer-fits _ _ c.load_met.ensures c.in_ok-asked.ensures (fits-then c.in_ok-loaded_edge.ensures refl)
