use Rattle.std.proofs.Common.{◌-◌}
use Rattle.offsets.specs.Index.{Stands, Indexed}
use Rattle.offsets.proofs.places.reach.Given as goal

abbrev pub invariant-loop-x : goal.invariant-loop-x
invariant-loop-x l = Stands l.code l.x.at l.x.count × Indexed l.code l.index

abbrev pub decreases-loop-x : goal.decreases-loop-x
decreases-loop-x l = l.goal - l.x.at
