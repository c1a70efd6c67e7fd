use Rattle.std.proofs.Common.{arith}
use Rattle.ground.proofs.Bounded.{first-at, first-none}
use borrow.Author.Count.{below_none, below_more}
use Rattle.java.specs.Classes.{class_number}
use mathlib.Core.Path.{sym, ◌∙◌}
use Rattle.java.proofs.class_number.Goals as goal

pub loop-c-init : goal.loop-c-init
loop-c-init c = below_none _

pub returns-then-is_index : goal.returns-then-is_index
unfolding class_number
returns-then-is_index c = (omega arith, sym (first-at 8 _ c.loop-c.c (omega arith) c.loop-c.invariant (sym c.is_index.ensures ∙ c.if-is_index.true)))

pub loop-c-preserved : goal.loop-c-preserved
loop-c-preserved c = below_more _ _ c.loop-c.invariant (sym c.is_index.ensures ∙ c.if-is_index.false)

pub returns : goal.returns
unfolding class_number
returns c = sym (first-none 8 _ (λ j h. c.loop-c.invariant j (omega arith)))
