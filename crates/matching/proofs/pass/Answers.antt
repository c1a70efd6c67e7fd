use mathlib.Core.Path.{ap, sym, ◌∙◌}
use Rattle.entries.specs.Shorts.{short_in}
use Rattle.matching.specs.Passes.{pass}
use Rattle.matching.proofs.Edges.{rest-none}
use Rattle.matching.proofs.Scans.{short-left, short-go}
use Rattle.matching.proofs.pass.Goals as goal

pub returns-in_err-vars_pass : goal.returns-in_err-vars_pass
unfolding pass
returns-in_err-vars_pass c = short-left _ _ c.from_residual.ensures.1 _ c.in_err-vars_pass.ensures

pub returns-in_err-t : goal.returns-in_err-t
unfolding pass
returns-in_err-t c = short-go c.in_ok-vars_pass.ensures (short-left _ _ c.from_residual-in_err-t.ensures.1 _ (sym (ap short_in c.in_err-t.was)))

pub returns-then-depth_left-eq0 : goal.returns-then-depth_left-eq0
unfolding pass
returns-then-depth_left-eq0 c =
    short-go c.in_ok-vars_pass.ensures (short-go (sym (ap short_in c.in_ok-t.was)) (rest-none _ _ _ _ (sym c.depth_left.ensures.0 ∙ c.if-depth_left-eq0.true)))

pub returns : goal.returns
unfolding pass
returns c = short-go c.in_ok-vars_pass.ensures (short-go (sym (ap short_in c.in_ok-t.was)) c.rest_pass.ensures)
