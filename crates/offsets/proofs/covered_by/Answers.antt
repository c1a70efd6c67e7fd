use Rattle.std.proofs.Common.{arith}
use Rattle.offsets.proofs.Turns.{found, not_found}
use borrow.Author.Count.{below_none, below_more}
use Rattle.offsets.specs.Handlers.{covered_by}
use mathlib.Core.Path.{sym, ◌∙◌}
use Rattle.offsets.proofs.covered_by.Goals as goal

pub loop-i-init : goal.loop-i-init
loop-i-init c = below_none _

pub returns-then-covers : goal.returns-then-covers
unfolding covered_by
returns-then-covers c = (c.loop-i-test.true, found _ _ _ c.loop-i-test.true c.loop-i.invariant (sym c.covers.ensures ∙ c.if-covers.true))

pub loop-i-preserved : goal.loop-i-preserved
loop-i-preserved c = below_more _ _ c.loop-i.invariant (sym c.covers.ensures ∙ c.if-covers.false)

pub returns : goal.returns
unfolding covered_by
returns c = not_found _ _ _ (omega arith) c.loop-i-test.false c.loop-i.invariant
