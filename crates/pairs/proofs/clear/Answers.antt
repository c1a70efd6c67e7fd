use Prim.Native.Nat.{◌+◌}
use lib.ListN.{length}
use Rattle.ground.specs.Bytes.{at}
use Rattle.passes.specs.Passes.{other, cleared, lowest}
use Rattle.passes.proofs.Halves.{is-there, is-absent}
use Rattle.pairs.proofs.clear.Goals as goal

pub returns-then-is_reference : goal.returns-then-is_reference
unfolding lowest
returns-then-is_reference c = let h = is-there (c.args.p + 3) (length c.args.b.now) (at c.args.b.now c.args.p) _ c.is_reference.ensures c.if-is_reference.true in cleared h.0 h.1

pub returns-else-is_reference : goal.returns-else-is_reference
returns-else-is_reference c = other (is-absent _ _ _ _ c.is_reference.ensures c.if-is_reference.false)
