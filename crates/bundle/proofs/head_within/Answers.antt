use native.Mathlib.Omega.{arith}
use Prim.Native.Nat.{◌+◌}
use mathlib.Core.Path.{◌≡◌}
use Rattle.bundle.specs.Container.{head_at}
use Rattle.bundle.proofs.head_within.Goals as goal

pub returns : goal.returns
unfolding head_at
returns c =
    let d = c.args.d in
    let e : d + 6 + 1 ≡ d + 7 = omega arith in rw (e, c.join.ensures, c.join-2.ensures)
