use mathlib.Core.Path.{◌≡◌, refl, sym, ap, ◌∙◌}
use Rattle.rows.specs.Rows.{row_in}
use Rattle.rules.specs.Rule.{met, asked}
use Rattle.rules.specs.Rules.{get_rule}
use Rattle.rules.proofs.Rules.{get-met}
use Rattle.rules.proofs.Judging.{answer-unmet, answer-short, answer-fits, short-then, fits-then}
use Rattle.rules.proofs.get_rule.Goals as goal
use Rattle.rules.proofs.get_rule.Goals.{After-asked}

asks : (c : After-asked)
    → c.asked.result ≡ asked (met (get_rule c.args.m.now.class.vars c.args.x.exception c.args.c c.args.d c.args.x.handler.0 (row_in c.args.m.now c.args.p) (row_in c.args.m.now c.args.q) (row_in c.args.m.now c.args.x.row)))
asks c =
    rw (c.depth_of-2.ensures.0, c.depth_left.ensures.0, c.null_met.ensures, c.owner_goes.ensures, c.depth_of.ensures.0, c.stack_word-owner.ensures.1) at c.asked.ensures
    ∙ ap asked (sym (get-met _ _ _ _ _ _ _ _))

pub returns-in_err-asked : goal.returns-in_err-asked
returns-in_err-asked c = answer-unmet _ _ refl _ (sym c.in_err-asked.was ∙ asks (goal.at.returns-in_err-asked c).After-asked) c.from_residual.ensures.1

pub returns-in_err-field_edge : goal.returns-in_err-field_edge
unfolding get_rule
returns-in_err-field_edge c = answer-short _ _ refl _ _ (sym c.in_ok-asked.was ∙ asks (goal.at.returns-in_err-field_edge c).After-asked) (short-then _ _ c.in_err-field_edge.ensures) c.from_residual-in_err-field_edge.ensures.1

pub returns-in_err-null_short : goal.returns-in_err-null_short
unfolding get_rule
returns-in_err-null_short c =
    answer-short _ _ refl _ _ (sym c.in_ok-asked.was ∙ asks (goal.at.returns-in_err-null_short c).After-asked)
    (fits-then c.in_ok-field_edge.ensures (rw c.stack_word-owner.ensures.1 at c.in_err-null_short.ensures))
    c.from_residual-in_err-null_short.ensures.1

pub returns : goal.returns
unfolding get_rule
returns c =
    answer-fits _ _ refl (sym c.in_ok-asked.was ∙ asks (goal.at.returns c).After-asked) (fits-then c.in_ok-field_edge.ensures (rw c.stack_word-owner.ensures.1 at c.in_ok-null_short.ensures))
