use Rattle.std.proofs.Common.{arith}
use Rattle.offsets.proofs.Turns.{found, not_found}
use borrow.Author.Count.{below_none, below_more}
use borrow.Author.Tests.{le-leb, lt-leb}
use Rattle.classfile.specs.Starts.{address_by}
use Prim.Native.Nat.{ℕ, ◌+◌}
use mathlib.Core.Path.{ap}
use Rattle.classfile.proofs.rows.address.Goals as goal

pub loop-k-init : goal.loop-k-init
loop-k-init c = below_none _

pub returns-then-t-m : goal.returns-then-t-m
unfolding address_by
returns-then-t-m c = ap (λ (n : ℕ). n + 1) (found _ _ _ c.loop-k-test.true c.loop-k.invariant (le-leb _ _ c.if-t-m.true))

pub loop-k-preserved : goal.loop-k-preserved
loop-k-preserved c = below_more _ _ c.loop-k.invariant (lt-leb _ _ c.if-t-m.false)

pub returns : goal.returns
unfolding address_by
returns c = ap (λ (n : ℕ). n + 1) (not_found _ _ _ (omega arith) c.loop-k-test.false c.loop-k.invariant)
