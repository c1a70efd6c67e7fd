use mathlib.Core.Path.{◌≡◌}
use Prim.Native.Nat.{◌+◌, ◌*◌}
use lib.ListN.{replicate}
use Rattle.ground.specs.Bounded.{set_below}
use Rattle.state_bytes.proofs.read_all.Given as goal

abbrev pub invariant-loop-i : goal.invariant-loop-i
invariant-loop-i g l = let m = g.T.Stands in l.a ≡ set_below l.i (λ i. m.read_of l.g (l.from + i * m.WIDTH)) (replicate g.row.N l.fn.none)
