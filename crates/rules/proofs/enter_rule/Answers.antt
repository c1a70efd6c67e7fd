use mathlib.Core.Path.{◌≡◌, refl, sym, ap, ◌∙◌}
use mathlib.Core.Bool.{true}
use Rattle.ground.proofs.Bools.{and-fst}
use Rattle.entries.specs.Entries.{is_reference, is_nullable}
use Rattle.rows.specs.Rows.{row_in}
use Rattle.rules.specs.Rule.{met, asked}
use Rattle.rules.specs.Rules.{enter_rule}
use Rattle.rules.proofs.Rules.{enter-level, enter-edge, enter-met, enter-edges}
use Rattle.rules.proofs.Judging.{was_asked, answer-unmet, answer-short, answer-fits, short-then, fits-then}
use Rattle.rules.proofs.enter_rule.Goals as goal
use Rattle.rules.proofs.enter_rule.Goals.{Then-is_reference, Else-is_reference, After-asked, After-asked-2, In_ok-asked-2}

-- a reference
reference : (c : Then-is_reference) → is_reference ((row_in c.args.m.now c.args.p).variable c.args.v) ≡ true
reference c = sym (rw c.variable_word-w.ensures.1 at c.is_reference.ensures) ∙ c.if-is_reference.true

asks : (c : After-asked)
    → c.asked.result
    ≡ asked (met (enter_rule c.args.m.now.class.vars c.args.x.exception c.args.v c.args.x.handler.0 (row_in c.args.m.now c.args.p) (row_in c.args.m.now c.args.q) (row_in c.args.m.now c.args.x.row)))
asks c = rw (c.depth_of.ensures.0, c.depth_of-2.ensures.0) at c.asked.ensures ∙ ap asked (sym (enter-level _ _ _ _ _ _ _ (reference (goal.at.After-asked c).Then-is_reference)))

pub returns-in_err-asked : goal.returns-in_err-asked
returns-in_err-asked c = answer-unmet _ _ refl _ (sym c.in_err-asked.was ∙ asks (goal.at.returns-in_err-asked c).After-asked) c.from_residual.ensures.1

pub returns-in_err-entered_edge : goal.returns-in_err-entered_edge
returns-in_err-entered_edge c =
    answer-short _ _ refl _ _ (sym c.in_ok-asked.was ∙ asks (goal.at.returns-in_err-entered_edge c).After-asked)
    (short-then _ _ c.in_err-entered_edge.ensures ∙ enter-edge _ _ _ _ _ _ _ (reference (goal.at.returns-in_err-entered_edge c).Then-is_reference))
    c.from_residual-in_err-entered_edge.ensures.1

pub returns-then-is_reference : goal.returns-then-is_reference
returns-then-is_reference c =
    answer-fits _ _ refl (sym c.in_ok-asked.was ∙ asks (goal.at.returns-then-is_reference c).After-asked)
    (fits-then c.in_ok-entered_edge.ensures refl ∙ enter-edge _ _ _ _ _ _ _ (reference (goal.at.returns-then-is_reference c).Then-is_reference))

-- what may be null, or no reference at all
asks_other : (c : After-asked-2)
    → c.asked-2.result
    ≡ asked (met (enter_rule c.args.m.now.class.vars c.args.x.exception c.args.v c.args.x.handler.0 (row_in c.args.m.now c.args.p) (row_in c.args.m.now c.args.q) (row_in c.args.m.now c.args.x.row)))
asks_other c =
    rw (c.failure_met.ensures, c.is_nullable.ensures, c.depth_of.ensures.0, c.depth_of-2.ensures.0, c.variable_word-w.ensures.1) at c.asked-2.ensures
    ∙ ap asked (sym (enter-met _ _ _ _ _ _ _ (sym (rw c.variable_word-w.ensures.1 at c.is_reference.ensures) ∙ c.if-is_reference.false)))

-- what was asked says that it may be null
nullable : (c : In_ok-asked-2) → is_nullable ((row_in c.args.m.now c.args.p).variable c.args.v) ≡ true
nullable c = sym (rw c.variable_word-w.ensures.1 at c.is_nullable.ensures) ∙ and-fst _ _ (and-fst _ _ (was_asked _ c.in_ok-asked-2.ensures))

pub returns-in_err-asked-2 : goal.returns-in_err-asked-2
returns-in_err-asked-2 c = answer-unmet _ _ refl _ (sym c.in_err-asked-2.was ∙ asks_other (goal.at.returns-in_err-asked-2 c).After-asked-2) c.from_residual-in_err-asked-2.ensures.1

pub returns-in_err-made_entered_edge : goal.returns-in_err-made_entered_edge
returns-in_err-made_entered_edge c =
    answer-short _ _ refl _ _ (sym c.in_ok-asked-2.was ∙ asks_other (goal.at.returns-in_err-made_entered_edge c).After-asked-2)
    (short-then _ _ (rw (c.class_of.ensures, c.variable_word-w.ensures.1) at c.in_err-made_entered_edge.ensures) ∙ enter-edges _ _ _ _ _ _ _ (nullable (goal.at.returns-in_err-made_entered_edge c).In_ok-asked-2))
    c.from_residual-in_err-made_entered_edge.ensures.1

pub returns-in_err-failure_short : goal.returns-in_err-failure_short
returns-in_err-failure_short c =
    answer-short _ _ refl _ _ (sym c.in_ok-asked-2.was ∙ asks_other (goal.at.returns-in_err-failure_short c).After-asked-2)
    (fits-then (rw (c.class_of.ensures, c.variable_word-w.ensures.1) at c.in_ok-made_entered_edge.ensures) c.in_err-failure_short.ensures ∙ enter-edges _ _ _ _ _ _ _ (nullable (goal.at.returns-in_err-failure_short c).In_ok-asked-2))
    c.from_residual-in_err-failure_short.ensures.1

pub returns : goal.returns
returns c =
    answer-fits _ _ refl (sym c.in_ok-asked-2.was ∙ asks_other (goal.at.returns c).After-asked-2)
    (fits-then (rw (c.class_of.ensures, c.variable_word-w.ensures.1) at c.in_ok-made_entered_edge.ensures) c.in_ok-failure_short.ensures ∙ enter-edges _ _ _ _ _ _ _ (nullable (goal.at.returns c).In_ok-asked-2))
