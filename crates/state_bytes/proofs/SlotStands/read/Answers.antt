use borrow.Author.Tests.{eq-eqb, ne_eqb}
use Rattle.state_bytes.specs.Format.{place_of}
use Rattle.state_bytes.proofs.SlotStands.read.Goals as goal

pub returns-then-kind-eq1 : goal.returns-then-kind-eq1
unfolding place_of
returns-then-kind-eq1 c = rw (c.ref_slot.ensures, c.byte.ensures, rw c.byte-kind.ensures at (eq-eqb _ _ c.if-kind-eq1.true))

pub returns-then-kind-eq2 : goal.returns-then-kind-eq2
unfolding place_of
returns-then-kind-eq2 c = rw (c.null_slot.ensures, rw c.byte-kind.ensures at (ne_eqb _ _ c.if-kind-eq1.false), rw c.byte-kind.ensures at (eq-eqb _ _ c.if-kind-eq2.true))

pub returns : goal.returns
unfolding place_of
returns c = rw (c.int_slot.ensures, c.quad.ensures, rw c.byte-kind.ensures at (ne_eqb _ _ c.if-kind-eq1.false), rw c.byte-kind.ensures at (ne_eqb _ _ c.if-kind-eq2.false))
