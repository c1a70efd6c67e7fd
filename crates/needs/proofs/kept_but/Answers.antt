use Rattle.needs.specs.Needs.{kept_but}
use borrow.Author.Tests.{eq-eqb, ne_eqb}
use Rattle.needs.proofs.kept_but.Goals as goal

pub returns-then-i-v : goal.returns-then-i-v
unfolding kept_but
returns-then-i-v c = rw (eq-eqb _ _ c.if-i-v.true)

pub returns : goal.returns
unfolding kept_but
returns c = rw (ne_eqb _ _ c.if-i-v.false) c.kept.ensures
