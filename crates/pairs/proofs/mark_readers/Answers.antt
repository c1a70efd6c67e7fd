use mathlib.Core.Path.{refl}
use native.Mathlib.Omega.{arith}
use Rattle.passes.proofs.Marks.{mark-goes-on, mark-ends}
use Rattle.pairs.proofs.mark_readers.Goals as goal

pub loop-j-preserved : goal.loop-j-preserved
loop-j-preserved c = mark-goes-on _ _ _ _ _ _ (omega arith) refl c.loop-j.invariant

pub returns : goal.returns
returns c = mark-ends _ _ _ _ _ _ _ (omega (arith, c.loop-j-test.false)) (omega arith) (omega arith) c.loop-j.invariant
