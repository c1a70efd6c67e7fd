use mathlib.Core.Path.{refl}
use Rattle.rules.specs.Rules.{if_rule}
use Rattle.rules.proofs.Judging.{answer-unmet, answer-short, answer-fits, short-then, fits-then}
use Rattle.rules.proofs.if_rule.Goals as goal

pub returns-in_err-asked : goal.returns-in_err-asked
returns-in_err-asked c = answer-unmet _ _ c.if_met.ensures _ c.in_err-asked.ensures c.from_residual.ensures.1

pub returns-in_err-popped_edge : goal.returns-in_err-popped_edge
unfolding if_rule
returns-in_err-popped_edge c = answer-short _ _ c.if_met.ensures _ _ c.in_ok-asked.ensures (short-then _ _ c.in_err-popped_edge.ensures) c.from_residual-in_err-popped_edge.ensures.1

pub returns-in_err-popped_edge-2 : goal.returns-in_err-popped_edge-2
unfolding if_rule
returns-in_err-popped_edge-2 c =
    answer-short _ _ c.if_met.ensures _ _ c.in_ok-asked.ensures (fits-then c.in_ok-popped_edge.ensures (short-then _ _ c.in_err-popped_edge-2.ensures)) c.from_residual-in_err-popped_edge-2.ensures.1

pub returns : goal.returns
unfolding if_rule
returns c = answer-fits _ _ c.if_met.ensures c.in_ok-asked.ensures (fits-then c.in_ok-popped_edge.ensures (fits-then c.in_ok-popped_edge-2.ensures refl))
