use Rattle.std.proofs.Common.{rules}
use native.Mathlib.Omega.{arith}
use Rattle.laying.specs.Lengths.{whole}
use Rattle.laying.proofs.Lengths.{heads-long, trailer-long, records-room, records-end, bundle-laid}
use Rattle.laying.proofs.lay_bundle.Goals as goal

pub lay_records-p-requires-clause-room : goal.lay_records-p-requires-clause-room
lay_records-p-requires-clause-room c = records-room c.requires.measured c.args.out.now c.requires.short.1

pub lay_directory-q-requires : goal.lay_directory-q-requires
unfolding whole
lay_directory-q-requires c = let e = records-end c.requires.measured _ c.requires.short.1 c.lay_records-p.ensures in let h = heads-long c.requires.measured c.args.parts.now.classes (search rules) in (c.requires.measured.most, c.requires.measured.directory, omega arith, omega arith)

pub lay_trailer-requires : goal.lay_trailer-requires
unfolding whole
lay_trailer-requires c = let e = records-end c.requires.measured _ c.requires.short.1 c.lay_records-p.ensures in let h = heads-long c.requires.measured c.args.parts.now.classes (search rules) in let t = trailer-long c.lay_records-p.result c.args.parts.now.classes c.args.parts.now.exception c.whole.result in (omega arith, omega (arith, c.whole.ensures), omega (arith, c.lay_directory-q.ensures.next))

pub returns : goal.returns
returns c = bundle-laid c.requires.measured _ c.requires.short.1 c.lay_records-p.ensures c.lay_directory-q.ensures _ c.whole.ensures c.lay_trailer.ensures
