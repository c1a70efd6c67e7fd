use Rattle.memory.proofs.Tab.{all_set}
use Rattle.threads.specs.Threads.{idle}
use Rattle.ground.proofs.Writes.{set-zero, set_more}
use native.Mathlib.Omega.{arith}
use lib.ListN.{replicate}
use mathlib.Core.Path.{◌≡◌, refl, sym}
use Rattle.runner.proofs.running.threads_from.Goals as goal

pub loop-i-init : goal.loop-i-init
loop-i-init c = rw c.idle-next.ensures (sym (set-zero _ _))

pub loop-i-preserved : goal.loop-i-preserved
loop-i-preserved c = rw (c.thread.ensures, c.loop-i.invariant) (sym (set_more _ _ _))

pub returns : goal.returns
returns c = let e : c.loop-i.i ≡ 8 = omega arith in rw (c.loop-i.invariant, e) (all_set 8 _ (replicate 8 idle) refl)
