use Rattle.std.proofs.Common.{rules}
use mathlib.Core.Path.{◌≡◌, ◌∙◌}
use mathlib.Core.Bool.{true, false}
use lib.ListN.{length}
use native.Mathlib.Omega.{arith}
use borrow.Author.Tests.{lt-ltb, le-ltb}
use Rattle.ground.specs.Chain.{refuse}
use Rattle.ground.proofs.Writes.{read-any}
use Rattle.threads.proofs.Places.{length-mapped}
use Rattle.threads.specs.Threads.{idle}
use Rattle.state.specs.State.{thread_at}
use Rattle.machine.proofs.Ready.{read}
use Rattle.holding.specs.Question.{held_of}
use Rattle.holding.proofs.Words.{word_number}
use Rattle.holding.proofs.held.Goals as goal

pub returns-then-is_err-clause-number : goal.returns-then-is_err-clause-number
unfolding held_of refuse
returns-then-is_err-clause-number c = rw (read _ _ c.structure.ensures c.is_err.ensures.value, c.if-is_err.true)

pub returns-then-not-state_ok-clause-number : goal.returns-then-not-state_ok-clause-number
unfolding held_of refuse
returns-then-not-state_ok-clause-number c = rw (read _ _ c.structure.ensures c.is_err.ensures.value, c.if-is_err.false, rw c.state_ok.ensures at c.if-not-state_ok.true)

pub returns-then-thread-ge8-clause-number : goal.returns-then-thread-ge8-clause-number
unfolding held_of refuse
returns-then-thread-ge8-clause-number c =
    rw (read _ _ c.structure.ensures c.is_err.ensures.value, c.if-is_err.false, rw c.state_ok.ensures at c.if-not-state_ok.false, le-ltb _ _ c.if-thread-ge8.true)

pub returns-then-not-s-k-clause-number : goal.returns-then-not-s-k-clause-number
unfolding held_of refuse
returns-then-not-s-k-clause-number c =
    let a = c.args in
    let l : length a.s.threads ≡ 8 = search (rules, length-mapped) in
    let e = read-any a.s.threads a.thread idle _ (omega arith) in
    let idles : (thread_at a.s a.thread).live ≡ false = rw e c.if-not-s-k.true in
    rw (
      read _ _ c.structure.ensures c.is_err.ensures.value,
      c.if-is_err.false,
      rw c.state_ok.ensures at c.if-not-state_ok.false,
      lt-ltb _ _ c.if-thread-ge8.false,
      idles,
    )

pub returns-clause-number : goal.returns-clause-number
unfolding held_of refuse
returns-clause-number c =
    let a = c.args in
    let l : length a.s.threads ≡ 8 = search (rules, length-mapped) in
    let e = read-any a.s.threads a.thread idle _ (omega arith) in
    let lives : (thread_at a.s a.thread).live ≡ true = rw e c.if-not-s-k.false in
    let ok = rw c.state_ok.ensures at c.if-not-state_ok.false in
    rw (
      read _ _ c.structure.ensures c.is_err.ensures.value,
      c.if-is_err.false,
      ok,
      lt-ltb _ _ c.if-thread-ge8.false,
      lives,
      c.bits_set.ensures ∙ word_number a.b.now a.s ok a.thread c.if-thread-ge8.false,
    )
