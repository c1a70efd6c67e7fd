use mathlib.Core.Path.{◌≡◌, refl, sym, ap, ◌∙◌}
use Rattle.rows.specs.Rows.{row_in}
use Rattle.rules.specs.Rule.{met, asked}
use Rattle.rules.specs.Rules.{new_rule}
use Rattle.rules.proofs.Rules.{new-met}
use Rattle.rules.proofs.Judging.{answer-unmet, answer-short, answer-fits, short-then, fits-then}
use Rattle.rules.proofs.new_rule.Goals as goal
use Rattle.rules.proofs.new_rule.Goals.{After-asked}

asks : (c : After-asked)
    → c.asked.result ≡ asked (met (new_rule c.args.m.now.class.vars c.args.x.exception c.args.c c.args.x.handler.0 (row_in c.args.m.now c.args.p) (row_in c.args.m.now c.args.q) (row_in c.args.m.now c.args.x.row)))
asks c = rw (c.failure_met.ensures, c.depth_of.ensures.0, c.depth_of-2.ensures.0) at c.asked.ensures ∙ ap asked (sym (new-met _ _ _ _ _ _ _))

pub returns-in_err-asked : goal.returns-in_err-asked
returns-in_err-asked c = answer-unmet _ _ refl _ (sym c.in_err-asked.was ∙ asks (goal.at.returns-in_err-asked c).After-asked) c.from_residual.ensures.1

pub returns-in_err-made_edge : goal.returns-in_err-made_edge
unfolding new_rule
returns-in_err-made_edge c = answer-short _ _ refl _ _ (sym c.in_ok-asked.was ∙ asks (goal.at.returns-in_err-made_edge c).After-asked) (short-then _ _ c.in_err-made_edge.ensures) c.from_residual-in_err-made_edge.ensures.1

pub returns-in_err-failure_short : goal.returns-in_err-failure_short
unfolding new_rule
returns-in_err-failure_short c =
    answer-short _ _ refl _ _ (sym c.in_ok-asked.was ∙ asks (goal.at.returns-in_err-failure_short c).After-asked) (fits-then c.in_ok-made_edge.ensures c.in_err-failure_short.ensures) c.from_residual-in_err-failure_short.ensures.1

pub returns : goal.returns
unfolding new_rule
returns c = answer-fits _ _ refl (sym c.in_ok-asked.was ∙ asks (goal.at.returns c).After-asked) (fits-then c.in_ok-made_edge.ensures c.in_ok-failure_short.ensures)
