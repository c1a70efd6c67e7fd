use Rattle.java.proofs.Opcodes.{size-under}
use Rattle.java.proofs.Sizes.{read_past, raw-is, read-cut, read_whole}
use native.Mathlib.Omega.{arith}
use Rattle.java.proofs.read_at.Goals as goal

pub returns-then-code-p : goal.returns-then-code-p
returns-then-code-p c = read_past _ _ c.if-code-p.true

pub overflow_add-size : goal.overflow_add-size
overflow_add-size c = omega (arith, size-under _ c.java_of-j.result c.width.ensures c.lock_bytes.ensures)

pub returns-then-code-p-2 : goal.returns-then-code-p-2
returns-then-code-p-2 c =
    read-cut _ _ (raw-is _ _ c.java_of-j.ensures c.byte.ensures c.byte-2.ensures) c.width.ensures c.lock_bytes.ensures c.if-code-p.false c.if-code-p-2.true

pub returns : goal.returns
returns c =
    read_whole _ _ (raw-is _ _ c.java_of-j.ensures c.byte.ensures c.byte-2.ensures) c.width.ensures c.lock_bytes.ensures c.if-code-p.false c.if-code-p-2.false
