use Rattle.std.proofs.Common.{rules}
use Prim.Native.Nat.{◌+◌}
use Rattle.laying.specs.Laid.{entry_laid, entries_laid}
use Rattle.laying.proofs.Over.{each_none, each_more, each-room}
use Rattle.laying.proofs.lay_entries.Goals as goal

pub loop-j-init : goal.loop-j-init
loop-j-init c = each_none _ _ _

pub lay_entry-q-requires : goal.lay_entry-q-requires
unfolding entries_laid
lay_entry-q-requires c = (search rules, each-room (λ i. entry_laid c.args.kinds.now (c.args.s + i)) _ _ c.args.n _ c.loop-j-test.true c.requires.1 c.loop-j.invariant)

pub loop-j-preserved : goal.loop-j-preserved
unfolding entries_laid
loop-j-preserved c = each_more (λ i. entry_laid c.args.kinds.now (c.args.s + i)) _ _ c.args.n _ c.loop-j-test.true c.requires.1 c.loop-j.invariant c.lay_entry-q.ensures
