use mathlib.Core.Path.{ap}
use mathlib.Core.Bool.{not}
use Rattle.std.proofs.Common.{rules}
use Prim.Native.Nat.{◌≤◌}
use mathlib.Core.Path.{◌≡◌, sym}
use lib.ListN.{length, get_or-eq_default}
use native.Mathlib.Omega.{arith}
use Rattle.ground.proofs.Bounded.{all-zero, all_more, all_left, all_done, all_from}
use Rattle.ground.proofs.Bools.{passed, failed}
use Rattle.threads.proofs.Places.{length-mapped}
use Rattle.values.specs.Values.{zero_slot}
use Rattle.belongs.specs.Belongs.{places_refer}
use Rattle.belongs.proofs.places_refer.Goals as goal

pub loop-i-init : goal.loop-i-init
loop-i-init c = search (rules, all-zero)

pub returns-then-k-ge16 : goal.returns-then-k-ge16
unfolding places_refer
returns-then-k-ge16 c =
    let l = c.args.l in
    let m : length l ≡ 16 = search (rules, length-mapped) in
    sym (all_from _ c.args.n c.loop-i.i c.loop-i.invariant (λ j h. let k : length l ≤ j = omega arith in rw (get_or-eq_default l zero_slot k)))

pub returns-then-not-refers : goal.returns-then-not-refers
unfolding places_refer
returns-then-not-refers c = all_left _ _ _ c.loop-i-test.true (failed c.refers.ensures (ap not c.if-not-refers.true))

pub loop-i-preserved : goal.loop-i-preserved
loop-i-preserved c = all_more _ _ c.loop-i.invariant (passed c.refers.ensures (ap not c.if-not-refers.false))

pub returns : goal.returns
unfolding places_refer
returns c = all_done _ _ _ (omega arith) c.loop-i-test.false c.loop-i.invariant
