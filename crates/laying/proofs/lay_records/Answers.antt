use Rattle.laying.specs.Given.{given_of}
use Rattle.laying.specs.Laid.{record_of}
use Rattle.laying.proofs.Over.{each_none, each_more, each-room}
use Rattle.laying.proofs.Lengths.{within}
use Rattle.laying.proofs.lay_records.Goals as goal

pub loop-c-init : goal.loop-c-init
loop-c-init c = each_none _ _ _

pub lay_class-q-requires : goal.lay_class-q-requires
lay_class-q-requires c = record { within = within c.requires.measured _ c.loop-c-test.true; room = each-room (record_of (given_of c.args.parts.now)) _ _ c.args.parts.now.classes _ c.loop-c-test.true c.requires.room c.loop-c.invariant }

pub loop-c-preserved : goal.loop-c-preserved
loop-c-preserved c = each_more (record_of (given_of c.args.parts.now)) _ _ c.args.parts.now.classes _ c.loop-c-test.true c.requires.room c.loop-c.invariant c.lay_class-q.ensures
