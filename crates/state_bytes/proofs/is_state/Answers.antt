use mathlib.Core.Path.{ap}
use mathlib.Core.Bool.{not}
use Rattle.std.proofs.Common.{rules}
use native.Mathlib.Omega.{arith}
use borrow.Author.Tests.{eq-eqb, ne_eqb}
use Rattle.ground.proofs.Bools.{passed, failed, and-false}
use Rattle.ground.proofs.Bounded.{all-zero, all_more, all-stop, all_done}
use Rattle.state_bytes.specs.Format.{is_thread_at, is_state}
use Rattle.state_bytes.proofs.is_state.Goals as goal

pub returns-then-g-ne-LENGTH : goal.returns-then-g-ne-LENGTH
unfolding is_state
returns-then-g-ne-LENGTH c = rw (ne_eqb _ _ c.if-g-ne-LENGTH.true)

pub returns-then-not-are_places : goal.returns-then-not-are_places
unfolding is_state
returns-then-not-are_places c = rw (failed c.are_places.ensures (ap not c.if-not-are_places.true), and-false)

pub loop-i-init : goal.loop-i-init
loop-i-init c = search (rules, all-zero)

pub returns-then-not-is_thread : goal.returns-then-not-is_thread
unfolding is_state
returns-then-not-is_thread c = rw (all-stop (is_thread_at c.args.g.now) 8 c.loop-i.i c.loop-i-test.true (failed c.is_thread.ensures (ap not c.if-not-is_thread.true)), and-false)

pub loop-i-preserved : goal.loop-i-preserved
loop-i-preserved c = all_more _ _ c.loop-i.invariant (passed c.is_thread.ensures (ap not c.if-not-is_thread.false))

pub returns : goal.returns
unfolding is_state
returns c = rw (eq-eqb _ _ c.if-g-ne-LENGTH.false, passed c.are_places.ensures (ap not c.if-not-are_places.false)) (all_done _ 8 _ (omega arith) c.loop-i-test.false c.loop-i.invariant)
