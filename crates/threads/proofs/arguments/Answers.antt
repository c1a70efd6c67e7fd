use Rattle.std.proofs.Common.{rules}
use Rattle.threads.proofs.Places.{length-mapped}
use mathlib.Core.Path.{◌≡◌, sym, ◌∙◌}
use lib.ListN.{length, get_or-eq_default}
use native.Mathlib.Omega.{arith}
use Rattle.ground.proofs.Writes.{set-zero, set_more, set_past}
use Rattle.values.specs.Values.{zero_slot}
use Rattle.threads.specs.Threads.{from_top}
use Rattle.threads.proofs.arguments.Goals as goal
use Rattle.threads.proofs.arguments.Goals.{then-p-lt16, else-p-lt16}

pub loop-j-init : goal.loop-j-init
loop-j-init c = rw c.zero_slot-z.ensures (sym (set-zero _ _))

pub returns-then-i-ge16 : goal.returns-then-i-ge16
returns-then-i-ge16 c =
    c.loop-j.invariant ∙ set_past _ _ c.loop-j.j c.args.n (omega arith) (omega arith)

pub loop-j-preserved : goal.loop-j-preserved
loop-j-preserved c =
    let t = c.args.starter in
    let l : length t.stack ≡ 16 = search (rules, length-mapped) in
    let e = c.place-p.ensures in
    -- what the turn reads is the starter's entry
    let read : c.if-p-lt16.x ≡ from_top t c.loop-j.j =
    elim c.if-p-lt16.branch [
      | then-p-lt16 w ↦ w.x-is ∙ rw (← e)
      | else-p-lt16 w ↦ w.x-is ∙ c.zero_slot-z.ensures ∙ sym (get_or-eq_default t.stack zero_slot (omega arith))
    ]
    in
    rw (read, c.loop-j.invariant) (sym (set_more _ _ _))

pub returns : goal.returns
returns c =
    let e : c.loop-j.j ≡ c.args.n = omega arith in
    rw (← e) c.loop-j.invariant
