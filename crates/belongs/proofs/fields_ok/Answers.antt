use mathlib.Core.Bool.{not}
use mathlib.Core.Path.{ap}
use Rattle.std.proofs.Common.{rules}
use Prim.Native.Nat.{◌≤◌, ◌+◌, ◌*◌}
use mathlib.Core.Path.{◌≡◌, sym}
use lib.ListN.{length, get_or-eq_default}
use native.Mathlib.Omega.{arith}
use Rattle.ground.proofs.Bounded.{all-zero, all_more, all_left, all-stop, all_done}
use Rattle.ground.proofs.Bools.{passed, failed}
use Rattle.bundle.specs.Program.{method_of, method_at, program_of}
use Rattle.threads.proofs.Places.{length-mapped}
use Rattle.values.specs.Values.{zero_slot}
use Rattle.belongs.specs.Belongs.{fields_refer, fields_ok}
use Rattle.belongs.proofs.fields_ok.Goals as goal
use Rattle.belongs.proofs.fields_ok.Goals.{else-k-lt128-via-then-k-lt128+else-not-refers, else-k-lt128-via-else-k-lt128}

pub loop-o-init : goal.loop-o-init
loop-o-init c = search (rules, all-zero)

pub loop-f-init : goal.loop-f-init
loop-f-init c = search (rules, all-zero)

pub returns-then-not-refers : goal.returns-then-not-refers
unfolding fields_ok fields_refer program_of method_at method_of
returns-then-not-refers c =
    all_left _ _ _ c.loop-o-test.true
    (rw (← c.byte.ensures, ← c.class_at-n.ensures)
    (all-stop _ _ _ c.loop-f-test.true (failed c.refers.ensures (ap not c.if-not-refers.true))))

pub loop-f-preserved : goal.loop-f-preserved
loop-f-preserved c =
    let l = c.args.fields in
    let m : length l ≡ 128 = search (rules, length-mapped) in all_more _ _ c.loop-f.invariant (elim c.else-k-lt128.branch [
      | else-k-lt128-via-then-k-lt128+else-not-refers w ↦ passed w.refers.ensures (ap not w.if-not-refers.false)
      | else-k-lt128-via-else-k-lt128 w ↦ let k : length l ≤ c.loop-o.o * 4 + c.loop-f.f = omega arith in rw (get_or-eq_default l zero_slot k)
    ])

pub loop-o-preserved : goal.loop-o-preserved
unfolding fields_refer program_of method_at method_of
loop-o-preserved c = all_more _ _ c.loop-o.invariant (rw (← c.byte.ensures, ← c.class_at-n.ensures) (sym (all_done _ _ _ (omega arith) c.loop-f-test.false c.loop-f.invariant)))

pub returns : goal.returns
unfolding fields_ok
returns c = all_done _ _ _ (omega arith) c.loop-o-test.false c.loop-o.invariant
