use Rattle.std.proofs.Common.{◌≡◌, true}
use Rattle.ground.specs.Bounded.{all_below}
use Rattle.forms.specs.Columns.{rest_of}
use Rattle.forms.proofs.rests_formed.Given as goal

abbrev pub invariant-loop-l : goal.invariant-loop-l
invariant-loop-l l = all_below l.l (rest_of l.m.classes l.m.class l.m.bytes.now) ≡ true
