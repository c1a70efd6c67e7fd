use Rattle.ground.proofs.Bytes.{mul-under}
use Prim.Native.Nat.{◌*◌, ◌≤◌}
use native.Mathlib.Omega.{arith}
use Rattle.rows.specs.Rows.{start_behind}
use Rattle.rows.proofs.start_behind.Goals as goal

pub overflow_mul-result-2 : goal.overflow_mul-result-2
overflow_mul-result-2 c =
    let bound : c.args.i * c.width.result ≤ 65535 * 2041 = mul-under _ _ 65535 2041 (omega arith) (omega arith) in
    omega arith

pub overflow_add-result-3 : goal.overflow_add-result-3
overflow_add-result-3 c =
    let bound : c.args.i * c.width.result ≤ 65535 * 2041 = mul-under _ _ 65535 2041 (omega arith) (omega arith) in
    omega arith

pub returns : goal.returns
unfolding start_behind
returns c = rw c.width.ensures.0
