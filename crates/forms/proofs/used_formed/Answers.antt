use Rattle.std.proofs.Common.{true, false}
use Rattle.ground.proofs.Bounded.{all_more, all_left}
use Rattle.forms.proofs.Columns.{used-told}
use Rattle.forms.proofs.used_formed.Goals as goal

pub returns-then-not-is_type : goal.returns-then-not-is_type
returns-then-not-is_type c =
    let test = c.loop-j-test.true in
    all_left _ _ _ test (used-told _ _ _ _ _ _ _ c.requires c.stack_word.ensures.1 false test cc)

pub loop-j-preserved : goal.loop-j-preserved
loop-j-preserved c = all_more _ _ c.loop-j.invariant (used-told _ _ _ _ _ _ _ c.requires c.stack_word.ensures.1 true c.loop-j-test.true cc)
