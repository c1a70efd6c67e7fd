use Rattle.std.proofs.Common.{rules}
use Rattle.ground.proofs.Writes.{fill-zero, fill_more}
use mathlib.Core.Path.{◌≡◌, refl, sym}
use native.Mathlib.Omega.{arith}
use lib.ListN.{length-set}
use Rattle.classfile.proofs.rows.mark.Goals as goal

pub loop-i-init : goal.loop-i-init
loop-i-init c = (search rules, sym (fill-zero _ _ _), refl)

pub loop-i-preserved : goal.loop-i-preserved
loop-i-preserved c = (search rules, rw c.loop-i.invariant.1 (sym (fill_more _ _ _ _)), rw length-set c.loop-i.invariant.2)

pub returns : goal.returns
returns c = let e : c.loop-i.i ≡ c.args.n = omega arith in rw (← e) c.loop-i.invariant.1
