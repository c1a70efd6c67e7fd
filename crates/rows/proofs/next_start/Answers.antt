use native.Mathlib.Omega.{arith}
use mathlib.Core.Path.{◌≡◌}
use Prim.Native.Nat.{◌-◌, ◌+◌}
use Rattle.rows.specs.Rows.{row_start}
use Rattle.rows.proofs.next_start.Goals as goal

pub returns : goal.returns
unfolding row_start
returns c = let e : c.args.l.0 + 1 - 1 ≡ c.args.l.0 = omega arith in rw e c.start_behind.ensures
