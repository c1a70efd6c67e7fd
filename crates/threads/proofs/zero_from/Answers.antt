use Rattle.std.proofs.Common.{rules}
use mathlib.Core.Path.{◌≡◌, sym, ◌∙◌}
use lib.ListN.{length}
use native.Mathlib.Omega.{arith}
use Rattle.ground.proofs.Writes.{fill-zero, fill_more, fill-past}
use Rattle.threads.proofs.zero_from.Goals as goal

pub loop-i-init : goal.loop-i-init
loop-i-init c = sym (fill-zero _ _ _)

pub returns-then-p-ge16 : goal.returns-then-p-ge16
returns-then-p-ge16 c =
    let l : length c.args.a ≡ 16 = search rules in
    c.loop-i.invariant ∙ fill-past _ _ _ c.loop-i.i c.args.n (omega arith) (omega arith)

pub loop-i-preserved : goal.loop-i-preserved
loop-i-preserved c = rw (c.loop-i.invariant, c.zero_slot-z.ensures) (sym (fill_more _ _ _ _))

pub returns : goal.returns
returns c =
    let e : c.loop-i.i ≡ c.args.n = omega arith in
    rw (← e) c.loop-i.invariant
