use Rattle.std.proofs.Common.{rules}
use mathlib.Core.Path.{◌≡◌}
use Prim.Native.Nat.{◌-◌}
use lib.ListN.{length}
use lib.Seq.{set_out}
use native.Mathlib.Omega.{arith}
use Rattle.threads.specs.Threads.{topped}
use Rattle.threads.proofs.Places.{length-mapped}
use Rattle.threads.proofs.set_top.Goals as goal

pub returns-then-p-lt16 : goal.returns-then-p-lt16
unfolding topped
returns-then-p-lt16 c = rw c.saturating_sub-p.ensures

pub returns : goal.returns
unfolding topped
returns c =
    let t = c.args.t in
    let l : length t.stack ≡ 16 = search (rules, length-mapped) in
    let e = c.saturating_sub-p.ensures in
    rw (set_out t.stack (t.depth - 1) c.args.x (omega arith))
