use Rattle.passes.proofs.Clears.{row-goes-on, row_ends}
use Rattle.pairs.proofs.clear_row.Goals as goal

pub loop-s-preserved : goal.loop-s-preserved
loop-s-preserved c = row-goes-on _ _ c.in_use-m.result _ (cc) _ _ _ _ c.loop-s-test.true (rw c.place_in.ensures.0) c.loop-s.invariant c.clear.ensures

pub returns : goal.returns
returns c = row_ends _ _ c.in_use-m.result _ (cc) _ _ c.loop-s-test.false c.loop-s.invariant
