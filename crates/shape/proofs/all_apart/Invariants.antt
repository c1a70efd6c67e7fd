use Rattle.std.proofs.Common.{◌≡◌, true}
use Rattle.ground.specs.Bounded.{all_below}
use Rattle.shape.specs.Apart.{class_apart}
use Rattle.shape.proofs.all_apart.Given as goal

abbrev pub invariant-loop-c : goal.invariant-loop-c
invariant-loop-c l = all_below l.c (class_apart l.b) ≡ true
