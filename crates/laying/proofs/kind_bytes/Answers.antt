use Rattle.std.proofs.Common.{rules}
use Prim.Native.Nat.{◌+◌, ◌*◌, ◌≤◌}
use native.Mathlib.Omega.{arith}
use Rattle.ground.proofs.Bytes.{mul-under}
use Rattle.laying.specs.Lengths.{kind_bytes}
use Rattle.laying.proofs.kind_bytes.Goals as goal

pub returns : goal.returns
unfolding kind_bytes
returns c = let h : c.args.k.code * (2 * (c.args.k.vars + c.args.k.limit)) ≤ 65535 * 1020 = mul-under _ _ 65535 1020 (search rules) (search rules) in (search rules, omega arith)
