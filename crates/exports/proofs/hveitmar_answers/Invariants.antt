use Prim.Native.Nat.{◌<◌}
use mathlib.Core.Path.{◌≡◌}
use lib.Dec.{leb}
use Rattle.ground.specs.Bytes.{at}
use Rattle.exports.specs.Exports.{running}
use Rattle.exports.proofs.hveitmar_answers.Given as goal

abbrev pub invariant-loop-i : goal.invariant-loop-i
invariant-loop-i l = (l.r ≡ running l.b (at l.threads) (λ j. leb 1 (at l.fails j)) l.i) × (l.r.digest < 4294967296)
