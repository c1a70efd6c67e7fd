use Rattle.needs.specs.Needs.{thrown_var}
use borrow.Author.Tests.{eq-eqb, ne_eqb}
use Rattle.needs.proofs.thrown_var.Goals as goal

pub returns-then-handler-eq0 : goal.returns-then-handler-eq0
unfolding thrown_var
returns-then-handler-eq0 c = rw (eq-eqb _ 0 c.if-handler-eq0.true) c.gone.ensures

pub returns : goal.returns
unfolding thrown_var
returns c = rw (ne_eqb _ 0 c.if-handler-eq0.false) c.kept.ensures
