use mathlib.Core.Path.{◌≡◌, refl, sym, ap, ◌∙◌}
use Rattle.rows.specs.Rows.{row_in}
use Rattle.rules.specs.Rule.{met, asked}
use Rattle.rules.specs.Rules.{throw_rule}
use Rattle.rules.proofs.Rules.{throw-rule-met, throw-short}
use Rattle.rules.proofs.Judging.{answer-unmet, answer-short, answer-fits}
use Rattle.rules.proofs.throw_rule.Goals as goal
use Rattle.rules.proofs.throw_rule.Goals.{After-asked}

asks : (c : After-asked) → c.asked.result ≡ asked (met (throw_rule c.args.m.now.class.vars c.args.x.exception c.args.x.handler.0 (row_in c.args.m.now c.args.p) (row_in c.args.m.now c.args.x.row)))
asks c =
    rw (c.throw_met.ensures, c.may_go.ensures, c.rest_goes.ensures, c.is_of.ensures, c.depth_of.ensures.0, c.stack_word-top.ensures.1) at c.asked.ensures ∙ ap asked (sym (throw-rule-met _ _ _ _ _))

pub returns-in_err-asked : goal.returns-in_err-asked
returns-in_err-asked c = answer-unmet _ _ refl _ (sym c.in_err-asked.was ∙ asks (goal.at.returns-in_err-asked c).After-asked) c.from_residual.ensures.1

pub returns-in_err-thrown_short : goal.returns-in_err-thrown_short
unfolding throw_rule
returns-in_err-thrown_short c = answer-short _ _ refl _ _ (sym c.in_ok-asked.was ∙ asks (goal.at.returns-in_err-thrown_short c).After-asked)
    (rw (c.word_short-t.ensures, c.stack_word.ensures.1, c.stack_word-top.ensures.1) at c.in_err-thrown_short.ensures ∙ sym (throw-short _ _ _ _ _)) c.from_residual-in_err-thrown_short.ensures.1

pub returns : goal.returns
unfolding throw_rule
returns c = answer-fits _ _ refl (sym c.in_ok-asked.was ∙ asks (goal.at.returns c).After-asked)
    (rw (c.word_short-t.ensures, c.stack_word.ensures.1, c.stack_word-top.ensures.1) at c.in_ok-thrown_short.ensures ∙ sym (throw-short _ _ _ _ _))
