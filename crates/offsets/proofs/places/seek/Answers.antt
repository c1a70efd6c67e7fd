use Rattle.std.proofs.Common.{arith}
use Rattle.offsets.proofs.Turns.{stands-first}
use Rattle.offsets.proofs.places.seek.Goals as goal

pub walk-requires-2 : goal.walk-requires-2
walk-requires-2 c = (stands-first _, omega arith, c.requires.1)
