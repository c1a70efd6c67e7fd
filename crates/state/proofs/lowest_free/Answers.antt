use Rattle.std.proofs.Common.{rules}
use mathlib.Core.Path.{◌≡◌, sym, ap, ◌∙◌}
use mathlib.Core.Bool.{not}
use lib.ListN.{length}
use native.Mathlib.Omega.{arith}
use borrow.Author.Count.{below_none, below_more}
use Rattle.ground.proofs.Bounded.{first-at, first-none}
use Rattle.ground.proofs.Writes.{read-any}
use Rattle.threads.proofs.Places.{length-mapped}
use Rattle.threads.specs.Threads.{idle}
use Rattle.threads.specs.declared.Thread.{Thread}
use Rattle.state.specs.State.{lowest_free}
use Rattle.state.proofs.lowest_free.Goals as goal

pub loop-i-init : goal.loop-i-init
loop-i-init c = below_none _

pub returns-then-not-threads-i : goal.returns-then-not-threads-i
unfolding lowest_free
returns-then-not-threads-i c = λ s q.
    let a = c.args.threads in
    let l : length a ≡ 8 = search (rules, length-mapped) in
    let e = read-any a c.loop-i.i idle _ (omega arith) in
    (omega arith, rw q (sym (first-at 8 _ c.loop-i.i (omega arith) c.loop-i.invariant (ap (λ (t : Thread). not t.live) e ∙ ap not c.if-not-threads-i.true))))

pub loop-i-preserved : goal.loop-i-preserved
loop-i-preserved c =
    let a = c.args.threads in
    let l : length a ≡ 8 = search (rules, length-mapped) in
    let e = read-any a c.loop-i.i idle _ (omega arith) in
    below_more _ _ c.loop-i.invariant (ap (λ (t : Thread). not t.live) e ∙ ap not c.if-not-threads-i.false)

pub returns : goal.returns
unfolding lowest_free
returns c = λ s q. rw q (sym (first-none 8 _ (λ j h. c.loop-i.invariant j (omega arith))))
