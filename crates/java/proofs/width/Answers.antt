use Rattle.java.specs.Opcodes.{width_of}
use Rattle.java.proofs.width.Goals as goal

pub returns-then-op : goal.returns-then-op
unfolding width_of
returns-then-op c = rw c.if-op.true

pub returns-then-op-2 : goal.returns-then-op-2
unfolding width_of
returns-then-op-2 c = rw (c.if-op.false, c.if-op-2.true)

pub returns : goal.returns
unfolding width_of
returns c = rw (c.if-op.false, c.if-op-2.false)
