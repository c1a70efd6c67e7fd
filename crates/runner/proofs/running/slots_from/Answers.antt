use Rattle.memory.proofs.Tab.{all_set}
use Rattle.values.specs.Values.{zero_slot}
use Rattle.ground.proofs.Writes.{set-zero, set_more}
use native.Mathlib.Omega.{arith}
use lib.ListN.{replicate}
use mathlib.Core.Path.{◌≡◌, refl, sym}
use Rattle.runner.proofs.running.slots_from.Goals as goal

pub loop-k-init : goal.loop-k-init
loop-k-init c = rw c.zero_slot-next.ensures (sym (set-zero _ _))

pub loop-k-preserved : goal.loop-k-preserved
loop-k-preserved c = rw (c.slot_of.ensures, c.loop-k.invariant) (sym (set_more _ _ _))

pub returns : goal.returns
returns c = let e : c.loop-k.k ≡ 128 = omega arith in rw (c.loop-k.invariant, e) (all_set 128 _ (replicate 128 zero_slot) refl)
