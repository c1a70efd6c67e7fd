use mathlib.Core.Path.{ap}
use mathlib.Core.Bool.{not}
use Rattle.std.proofs.Common.{rules}
use mathlib.Core.Path.{◌≡◌}
use native.Mathlib.Omega.{arith}
use Rattle.ground.proofs.Bounded.{all-zero, all_more, all-stop, all_done}
use Rattle.ground.proofs.Bools.{passed, failed}
use Rattle.belongs.specs.Belongs.{thread_counts_ok, count_ok_at}
use Rattle.belongs.proofs.Words.{made_more, made-agrees}
use Rattle.belongs.proofs.thread_held_ok.Goals as goal

pub loop-o-init : goal.loop-o-init
loop-o-init c = (all-zero _, λ j l. absurd (omega arith), omega arith)

pub returns-then-not-count_ok : goal.returns-then-not-count_ok
unfolding thread_counts_ok
returns-then-not-count_ok c =
    let a = c.args in
    rw (all-stop (count_ok_at a.counts.now a.objects a.live a.i) 32 c.loop-o.o c.loop-o-test.true (failed (rw c.count-n.ensures at c.count_ok.ensures) (ap not c.if-not-count_ok.true)))

pub loop-o-preserved : goal.loop-o-preserved
loop-o-preserved c =
    let a = c.args in
    let turn = c.loop-o in (
      all_more _ _ turn.invariant.0 (passed (rw c.count-n.ensures at c.count_ok.ensures) (ap not c.if-not-count_ok.false)),
      rw (c.mark-made.ensures, c.count-n.ensures) (made_more a.counts.now a.i turn.made turn.o c.loop-o-test.true turn.invariant.1),
      search rules,
    )

pub returns : goal.returns
unfolding thread_counts_ok
returns c =
    let a = c.args in
    let e : c.loop-o.o ≡ 32 = omega arith in
    rw (← all_done (count_ok_at a.counts.now a.objects a.live a.i) 32 c.loop-o.o (omega arith) c.loop-o-test.false c.loop-o.invariant.0)
    (made-agrees a.counts.now a.i a.w c.loop-o.made (search rules) c.loop-o.invariant.2 (rw e at c.loop-o.invariant.1))
