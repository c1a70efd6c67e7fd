use Rattle.ground.specs.Bounded.{set_below}
use Rattle.ground.specs.Bytes.{at}
use mathlib.Core.Path.{◌≡◌}
use Rattle.exports.proofs.runs.lay.Given as goal

abbrev pub invariant-loop-i : goal.invariant-loop-i
invariant-loop-i l = l.out ≡ set_below l.i (at l.g) l.initial.out
