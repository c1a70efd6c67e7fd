use borrow.Author.Tests.{eq-eqb, ne_eqb}
use Rattle.state_bytes.specs.Format.{is_place}
use Rattle.state_bytes.proofs.is_place.Goals as goal

pub returns-then-kind-eq1 : goal.returns-then-kind-eq1
unfolding is_place
returns-then-kind-eq1 c = rw (c.quad-rest.ensures, rw c.byte-kind.ensures at (eq-eqb _ _ c.if-kind-eq1.true))

pub returns-then-kind-eq2 : goal.returns-then-kind-eq2
unfolding is_place
returns-then-kind-eq2 c = rw (c.quad-rest.ensures, rw c.byte-kind.ensures at (ne_eqb _ _ c.if-kind-eq1.false), rw c.byte-kind.ensures at (eq-eqb _ _ c.if-kind-eq2.true))

pub returns : goal.returns
unfolding is_place
returns c = rw (c.byte-kind.ensures, rw c.byte-kind.ensures at (ne_eqb _ _ c.if-kind-eq1.false), rw c.byte-kind.ensures at (ne_eqb _ _ c.if-kind-eq2.false))
