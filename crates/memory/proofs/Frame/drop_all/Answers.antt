use Rattle.memory.proofs.Loops.{dropped-zero, dropped-more}
use native.Mathlib.Omega.{arith}
use mathlib.Core.Path.{◌≡◌, sym}
use Rattle.memory.proofs.Frame.drop_all.Goals as goal

pub loop-init : goal.loop-init
loop-init c = sym (dropped-zero _)

pub loop-preserved : goal.loop-preserved
loop-preserved c = rw (c.pop_one.ensures, c.loop.invariant) (sym (dropped-more _ _))

pub returns : goal.returns
returns c = let e : c.loop.counter ≡ c.args.n = omega arith in rw (← e) c.loop.invariant
