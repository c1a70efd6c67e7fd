use mathlib.Core.Path.{ap}
use mathlib.Core.Bool.{not}
use Rattle.std.proofs.Common.{rules, arith}
use borrow.Author.Tests.{le-ltb, lt-ltb, le-leb, lt-leb}
use Rattle.ground.proofs.Bools.{passed, failed}
use Rattle.ground.proofs.Bounded.{all-zero, all_more, all_left, all_done}
use Rattle.bundle.specs.Program.{program_of}
use Rattle.belongs.specs.Belongs.{objects_ok}
use Rattle.belongs.proofs.objects_ok.Goals as goal

pub returns-then-not-first_ok : goal.returns-then-not-first_ok
unfolding objects_ok
returns-then-not-first_ok c = rw (failed c.first_ok.ensures (ap not c.if-not-first_ok.true))

pub returns-then-objects-gt32 : goal.returns-then-objects-gt32
unfolding objects_ok
returns-then-objects-gt32 c = rw (passed c.first_ok.ensures (ap not c.if-not-first_ok.false), lt-leb _ _ c.if-objects-gt32.true)

pub loop-o-init : goal.loop-o-init
loop-o-init c = search (rules, all-zero)

pub returns-then-n-byte : goal.returns-then-n-byte
unfolding objects_ok program_of
returns-then-n-byte c = rw (passed c.first_ok.ensures (ap not c.if-not-first_ok.false), le-leb _ _ c.if-objects-gt32.false) (all_left _ _ _ c.loop-o-test.true (rw (← c.classes-n.ensures, ← c.byte.ensures) (le-ltb _ _ c.if-n-byte.true)))

pub loop-o-preserved : goal.loop-o-preserved
unfolding program_of
loop-o-preserved c = all_more _ _ c.loop-o.invariant (rw (← c.classes-n.ensures, ← c.byte.ensures) (lt-ltb _ _ c.if-n-byte.false))

pub returns : goal.returns
unfolding objects_ok
returns c = rw (passed c.first_ok.ensures (ap not c.if-not-first_ok.false), le-leb _ _ c.if-objects-gt32.false) (all_done _ _ _ (omega arith) c.loop-o-test.false c.loop-o.invariant)
