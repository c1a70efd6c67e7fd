use mathlib.Core.Path.{◌≡◌}
use Prim.Native.Nat.{◌+◌, ◌*◌}
use lib.ListN.{get_or}
use Rattle.ground.specs.Lists.{each}
use Rattle.state_written.specs.Written.{written}
use Rattle.state_written.proofs.laid.put_all.Given as goal

abbrev pub invariant-loop-x : goal.invariant-loop-x
invariant-loop-x g l =
    let m = g.T.Laid in
    (l.p ≡ l.from + l.x-index * m.WIDTH) × ((d : _) → l.out ≡ written l.from (each l.x-index (λ i. m.laid (get_or l.l i d))) l.initial.out)
