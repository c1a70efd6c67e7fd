use Rattle.ground.proofs.Writes.{set-zero, set_more, set-length}
use Rattle.ground.specs.Bytes.{at}
use native.Mathlib.Omega.{arith}
use mathlib.Core.Path.{◌≡◌, sym}
use Rattle.exports.proofs.runs.lay.Goals as goal

pub loop-i-init : goal.loop-i-init
loop-i-init c = sym (set-zero _ _)

pub bounds-out-i : goal.bounds-out-i
bounds-out-i c = rw (c.loop-i.invariant, set-length (at _) _ c.loop-i.i) (omega (arith, c.requires, c.loop-i-test.true))

pub loop-i-preserved : goal.loop-i-preserved
loop-i-preserved c = rw c.loop-i.invariant (sym (set_more _ _ _))

pub returns : goal.returns
returns c = let e : c.loop-i.i ≡ 2537 = omega arith in rw e at c.loop-i.invariant
