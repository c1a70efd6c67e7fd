use native.Mathlib.Omega.{arith}
use Rattle.laying.specs.Laid.{head_laid}
use Rattle.laying.proofs.Over.{each_none, each_more, each-room}
use Rattle.laying.proofs.Lengths.{records-upto}
use Rattle.laying.proofs.lay_directory.Goals as goal

pub loop-c-init : goal.loop-c-init
loop-c-init c = each_none _ _ _

pub lay_head-q-requires : goal.lay_head-q-requires
lay_head-q-requires c = (omega arith, omega arith, records-upto c.args.directory.now c.args.n _ _ c.loop-c-test.true c.requires.2, each-room (head_laid c.args.directory.now) _ _ c.args.n _ c.loop-c-test.true c.requires.3 c.loop-c.invariant)

pub loop-c-preserved : goal.loop-c-preserved
loop-c-preserved c = each_more (head_laid c.args.directory.now) _ _ c.args.n _ c.loop-c-test.true c.requires.3 c.loop-c.invariant c.lay_head-q.ensures
