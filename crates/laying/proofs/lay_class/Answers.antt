use Rattle.laying.specs.Given.{given_of}
use Rattle.laying.proofs.Lengths.{record_is}
use Rattle.laying.proofs.lay_class.Goals as goal

pub lay_record-requires : goal.lay_record-requires
lay_record-requires c = rw (record_is (given_of c.args.parts.now) _ _ _ _ c.sizes_of-s.ensures.0 c.numbers_at-k.ensures c.more-e.ensures.0) c.requires.room

pub returns : goal.returns
returns c = rw (record_is (given_of c.args.parts.now) _ _ _ _ c.sizes_of-s.ensures.0 c.numbers_at-k.ensures c.more-e.ensures.0) at c.lay_record.ensures
