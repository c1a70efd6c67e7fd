use Rattle.std.proofs.Common.{◌-◌}
use Rattle.offsets.proofs.Turns.{Walked}
use Rattle.offsets.proofs.places.walk.Given as goal

abbrev pub invariant-loop-x : goal.invariant-loop-x
invariant-loop-x l = Walked l.code l.t l.x.at l.x.count

abbrev pub decreases-loop-x : goal.decreases-loop-x
decreases-loop-x l = l.t - l.x.at
