use mathlib.Core.Path.{◌≡◌, refl, sym, ap, ◌∙◌}
use native.Mathlib.Omega.{arith}
use Prim.Native.Nat.{◌<◌}
use Rattle.ground.specs.Bytes.{at}
use Rattle.rows.specs.Rows.{row_in}
use Rattle.rules.specs.Rule.{met, asked}
use Rattle.rules.specs.Rules.{start_rule}
use Rattle.rules.proofs.Rules.{start-few, start-met}
use Rattle.rules.proofs.Judging.{answer-unmet, answer-short, answer-fits, short-then, fits-then}
use Rattle.rules.proofs.start_rule.Goals as goal
use Rattle.rules.proofs.start_rule.Goals.{After-asked}

pub returns-then-depth_of-args : goal.returns-then-depth_of-args
returns-then-depth_of-args c = sym (start-few _ _ _ _ _ _ (omega arith))

asks : (c : After-asked) → c.asked.result ≡ asked (met (start_rule c.args.args (at c.args.s.now) c.args.c (row_in c.args.m.now c.args.p) (row_in c.args.m.now c.args.q)))
asks c =
    let l : c.args.args < (row_in c.args.m.now c.args.p).depth = omega arith in
    rw (c.arguments_go.ensures, c.object_goes.ensures, c.depth_left.ensures.0, c.depth_of-2.ensures.0) at c.asked.ensures ∙ ap asked (sym (start-met _ _ _ _ _ l))

pub returns-in_err-asked : goal.returns-in_err-asked
returns-in_err-asked c = answer-unmet _ _ refl _ (sym c.in_err-asked.was ∙ asks (goal.at.returns-in_err-asked c).After-asked) c.from_residual.ensures.1

pub returns-in_err-popped_edge : goal.returns-in_err-popped_edge
unfolding start_rule
returns-in_err-popped_edge c = answer-short _ _ refl _ _ (sym c.in_ok-asked.was ∙ asks (goal.at.returns-in_err-popped_edge c).After-asked) (short-then _ _ c.in_err-popped_edge.ensures) c.from_residual-in_err-popped_edge.ensures.1

pub returns : goal.returns
unfolding start_rule
returns c = answer-fits _ _ refl (sym c.in_ok-asked.was ∙ asks (goal.at.returns c).After-asked) (fits-then c.in_ok-popped_edge.ensures refl)
