use Rattle.needs.specs.Needs.{thrown_top}
use borrow.Author.Tests.{eq-eqb, ne_eqb}
use Rattle.needs.proofs.thrown_top.Goals as goal

pub returns-then-handler-eq0 : goal.returns-then-handler-eq0
unfolding thrown_top
returns-then-handler-eq0 c = rw (eq-eqb _ 0 c.if-handler-eq0.true) c.gone.ensures

pub returns : goal.returns
unfolding thrown_top
returns c = rw (ne_eqb _ 0 c.if-handler-eq0.false) c.stacked.ensures
