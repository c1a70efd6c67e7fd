use mathlib.Core.Path.{ap}
use mathlib.Core.Bool.{not}
use mathlib.Core.Path.{◌≡◌, sym}
use native.Mathlib.Omega.{arith}
use Rattle.ground.proofs.Bools.{passed, failed}
use Rattle.ground.proofs.Bounded.{count-zero}
use Rattle.held.proofs.Word.{no_bits}
use Rattle.belongs.specs.Belongs.{has_bit}
use Rattle.belongs.proofs.Words.{taken_more, taken_twice, taken-all}
use Rattle.belongs.proofs.bits_apart.Goals as goal

pub loop-i-init : goal.loop-i-init
loop-i-init c = λ o l. rw (no_bits o) (count-zero (has_bit c.args.words o))

pub returns-then-not-apart : goal.returns-then-not-apart
returns-then-not-apart c =
    let turn = c.loop-i in
    sym (taken_twice c.args.words turn.taken turn.i c.loop-i-test.true (failed c.apart.ensures (ap not c.if-not-apart.true)) turn.invariant)

pub loop-i-preserved : goal.loop-i-preserved
loop-i-preserved c =
    let turn = c.loop-i in
    taken_more c.args.words turn.taken turn.i (passed c.apart.ensures (ap not c.if-not-apart.false)) turn.invariant

pub returns : goal.returns
returns c =
    let e : c.loop-i.i ≡ 8 = omega arith in
    sym (taken-all c.args.words c.loop-i.taken (rw e at c.loop-i.invariant))
