use Rattle.needs.specs.Needs.{throw_need}
use borrow.Author.Tests.{eq-eqb, ne_eqb}
use Rattle.needs.proofs.throw_need.Goals as goal

pub returns-then-j-eq0 : goal.returns-then-j-eq0
unfolding throw_need
returns-then-j-eq0 c = rw (eq-eqb _ 0 c.if-j-eq0.true) c.thrown_top.ensures

pub returns : goal.returns
unfolding throw_need
returns c = rw (ne_eqb _ 0 c.if-j-eq0.false) c.gone.ensures
