use Rattle.std.proofs.Common.{arith}
use Rattle.offsets.proofs.Turns.{found, not_found}
use borrow.Author.Count.{below_none, below_more}
use Rattle.offsets.specs.Targets.{stray_entry, first_stray_entry}
use Rattle.offsets.proofs.strays.stray_entry_by.Goals as goal

pub loop-i-init : goal.loop-i-init
loop-i-init c = below_none _

pub returns-then-not-lands : goal.returns-then-not-lands
unfolding first_stray_entry stray_entry
returns-then-not-lands c = (c.loop-i-test.true, found _ _ _ c.loop-i-test.true c.loop-i.invariant (rw (← c.handler_at-t.ensures, ← c.lands.ensures, c.if-not-lands.true)))

pub loop-i-preserved : goal.loop-i-preserved
unfolding stray_entry
loop-i-preserved c = below_more _ _ c.loop-i.invariant (rw (← c.handler_at-t.ensures, ← c.lands.ensures, c.if-not-lands.false))

pub returns : goal.returns
unfolding first_stray_entry
returns c = not_found _ _ _ (omega arith) c.loop-i-test.false c.loop-i.invariant
