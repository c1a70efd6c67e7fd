use Rattle.java.specs.Opcodes.{aload_of}
use borrow.Author.Tests.{ne_eqb}
use Rattle.java.proofs.aload.Goals as goal

pub returns-then-next-eq194 : goal.returns-then-next-eq194
unfolding aload_of
returns-then-next-eq194 c = rw c.if-next-eq194.true

pub returns-then-next-eq195 : goal.returns-then-next-eq195
unfolding aload_of
returns-then-next-eq195 c = rw c.if-next-eq195.true

pub returns : goal.returns
unfolding aload_of
returns c = rw (ne_eqb _ _ c.if-next-eq194.false, ne_eqb _ _ c.if-next-eq195.false)
