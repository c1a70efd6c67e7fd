use Rattle.std.proofs.Common.{◌≤◌}
use Rattle.offsets.proofs.Turns.{Counted}
use Rattle.offsets.proofs.first_past.Given as goal

abbrev pub invariant-loop-x : goal.invariant-loop-x
invariant-loop-x l = Counted l.code l.x-iterator l.k × (l.k ≤ l.limit)
