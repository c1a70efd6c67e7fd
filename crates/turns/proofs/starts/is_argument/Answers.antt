use borrow.Author.Tests.{eq-eqb, ne_eqb}
use Rattle.turns.specs.Faults.{is_argument}
use Rattle.turns.proofs.starts.is_argument.Goals as goal

pub returns-then-d-eq255 : goal.returns-then-d-eq255
unfolding is_argument
returns-then-d-eq255 c = rw (c.is_int.ensures, eq-eqb _ _ c.if-d-eq255.true)

pub returns : goal.returns
unfolding is_argument
returns c = rw (c.is_object.ensures, ne_eqb _ _ c.if-d-eq255.false)
