use Rattle.memory.proofs.Tab.{all_set}
use Rattle.values.specs.Values.{zero_slot}
use Rattle.ground.proofs.Writes.{set-zero, set_more}
use native.Mathlib.Omega.{arith}
use lib.ListN.{replicate}
use mathlib.Core.Path.{◌≡◌, refl, sym}
use Rattle.memory.proofs.words.slots.Goals as goal

pub loop-v-init : goal.loop-v-init
loop-v-init c = rw c.zero_slot-next.ensures (sym (set-zero _ _))

pub loop-v-preserved : goal.loop-v-preserved
loop-v-preserved c = rw (c.slot_of.ensures, c.loop-v.invariant) (sym (set_more _ _ _))

pub returns : goal.returns
returns c = let e : c.loop-v.v ≡ 16 = omega arith in rw (c.loop-v.invariant, e) (all_set 16 _ (replicate 16 zero_slot) refl)
