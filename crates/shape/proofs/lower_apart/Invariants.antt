use Rattle.std.proofs.Common.{◌≡◌, true}
use Rattle.ground.specs.Bounded.{all_below}
use Rattle.shape.specs.Apart.{apart_from}
use Rattle.shape.proofs.lower_apart.Given as goal

abbrev pub invariant-loop-d : goal.invariant-loop-d
invariant-loop-d l = all_below l.d (apart_from l.b l.k) ≡ true
