use Rattle.std.proofs.Common.{◌≡◌, ◌<◌}
use Rattle.ground.specs.Bytes.{at}
use Rattle.exports.specs.Exports.{who, failing, running}
use Rattle.exports.proofs.ran.Given as goal

abbrev pub invariant-loop-x : goal.invariant-loop-x
invariant-loop-x l = (l.r ≡ running l.b (λ j. who (at l.schedule j)) (λ j. failing (at l.schedule j)) l.x-index) × (l.r.digest < 4294967296)
