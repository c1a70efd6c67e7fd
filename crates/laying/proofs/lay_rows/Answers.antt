use Rattle.laying.specs.Laid.{row_laid}
use Rattle.laying.proofs.Over.{each_none, each_more, each-room}
use Rattle.laying.proofs.lay_rows.Goals as goal

pub loop-i-init : goal.loop-i-init
loop-i-init c = each_none _ _ _

pub lay_row-q-requires : goal.lay_row-q-requires
lay_row-q-requires c = each-room (row_laid c.args.k c.args.kinds.now c.args.depths.now) _ _ c.args.k.code _ c.loop-i-test.true c.requires c.loop-i.invariant

pub loop-i-preserved : goal.loop-i-preserved
loop-i-preserved c = each_more (row_laid c.args.k c.args.kinds.now c.args.depths.now) _ _ c.args.k.code _ c.loop-i-test.true c.requires c.loop-i.invariant c.lay_row-q.ensures
