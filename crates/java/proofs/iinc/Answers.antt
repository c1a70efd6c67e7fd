use Rattle.java.specs.Opcodes.{iinc_of}
use borrow.Author.Tests.{ne_eqb}
use Rattle.java.proofs.iinc.Goals as goal

pub returns-then-by-eq1 : goal.returns-then-by-eq1
unfolding iinc_of
returns-then-by-eq1 c = rw c.if-by-eq1.true

pub returns : goal.returns
unfolding iinc_of
returns c = rw (ne_eqb _ _ c.if-by-eq1.false)
