use mathlib.Core.Path.{◌≡◌, sym}
use native.Mathlib.Omega.{arith}
use Rattle.ground.proofs.Writes.{set-zero, set_more}
use Rattle.state_bytes.proofs.read_all.Goals as goal

pub loop-i-init : goal.loop-i-init
loop-i-init g c = sym (set-zero _ _)

pub loop-i-preserved : goal.loop-i-preserved
loop-i-preserved g c = rw (c.read.ensures, c.WIDTH.ensures, c.loop-i.invariant) (sym (set_more _ _ _))

pub returns : goal.returns
returns g c = let e : c.loop-i.i ≡ g.row.N = omega arith in rw e at c.loop-i.invariant
