use Rattle.std.proofs.Common.{rules}
use Rattle.threads.proofs.Places.{length-mapped}
use mathlib.Core.Path.{◌≡◌}
use lib.ListN.{length}
use lib.Seq.{set_out}
use native.Mathlib.Omega.{arith}
use Rattle.threads.specs.Threads.{stored}
use Rattle.threads.proofs.store.Goals as goal

pub returns-then-i-lt16 : goal.returns-then-i-lt16
unfolding stored
returns-then-i-lt16 c = search rules

pub returns : goal.returns
unfolding stored
returns c =
    let t = c.args.t in
    let l : length t.vars ≡ 16 = search (rules, length-mapped) in
    rw (set_out t.vars c.args.v.0 c.args.x (omega arith))
