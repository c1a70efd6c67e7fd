use Rattle.std.proofs.Common.{true, false}
use Rattle.ground.proofs.Bounded.{all_more, all_left}
use Rattle.forms.specs.Forms.{stack_formed}
use Rattle.forms.proofs.Columns.{all-fewer, below-told}
use Rattle.forms.proofs.stack_formed.Goals as goal

pub returns-then-not-used_formed : goal.returns-then-not-used_formed
unfolding stack_formed
returns-then-not-used_formed c = all-fewer _ _ _ c.requires.1 cc

pub returns-then-not-is_blank : goal.returns-then-not-is_blank
unfolding stack_formed
returns-then-not-is_blank c =
    all_left _ _ _ c.loop-j-test.true (below-told _ _ _ _ _ _ _ c.requires.0 c.stack_word.ensures.1 false c.loop-j.auto.j cc)

pub loop-j-preserved : goal.loop-j-preserved
loop-j-preserved c = all_more _ _ c.loop-j.invariant (below-told _ _ _ _ _ _ _ c.requires.0 c.stack_word.ensures.1 true c.loop-j.auto.j cc)
