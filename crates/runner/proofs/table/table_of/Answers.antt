use Rattle.memory.proofs.Tab.{all_set}
use Rattle.ground.specs.Bounded.{set_below}
use Rattle.ground.proofs.Writes.{set_more}
use Rattle.runner.specs.Table.{row_of}
use native.Mathlib.Omega.{arith}
use lib.ListN.{replicate}
use mathlib.Core.Path.{◌≡◌, refl, sym}
use Rattle.runner.proofs.table.table_of.Goals as goal

pub loop-c-init : goal.loop-c-init
unfolding set_below
loop-c-init c = rw c.row_of-next.ensures

pub loop-c-preserved : goal.loop-c-preserved
loop-c-preserved c = rw (c.row_of.ensures, c.loop-c.invariant) (sym (set_more _ _ _))

pub returns : goal.returns
returns c = let e : c.loop-c.c ≡ 8 = omega arith in rw (c.loop-c.invariant, e) (all_set 8 _ (replicate 8 (row_of c.args.b.now 0)) refl)
