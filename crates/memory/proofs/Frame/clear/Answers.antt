use Rattle.memory.proofs.Loops.{cleared-zero, cleared_more}
use mathlib.Core.Path.{sym}
use Rattle.memory.proofs.Frame.clear.Goals as goal

pub loop-v-init : goal.loop-v-init
loop-v-init c = sym (cleared-zero _)

pub loop-v-preserved : goal.loop-v-preserved
loop-v-preserved c = rw c.loop-v.invariant (sym (cleared_more _ _))
