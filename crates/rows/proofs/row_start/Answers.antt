use native.Mathlib.Omega.{arith}
use mathlib.Core.Path.{◌≡◌}
use Prim.Native.Nat.{◌-◌}
use Rattle.rows.specs.Rows.{row_start}
use Rattle.rows.proofs.row_start.Goals as goal

pub returns-then-l-lt1 : goal.returns-then-l-lt1
unfolding row_start
returns-then-l-lt1 c = let e : c.args.l.0 - 1 ≡ 0 = omega arith in rw e c.start_behind.ensures

pub returns : goal.returns
unfolding row_start
returns c = c.start_behind-2.ensures
