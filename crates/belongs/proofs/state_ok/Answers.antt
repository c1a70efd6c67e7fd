use mathlib.Core.Path.{ap}
use mathlib.Core.Bool.{not}
use Rattle.std.proofs.Common.{rules}
use mathlib.Core.Path.{◌≡◌, sym, ◌∙◌}
use mathlib.Core.Bool.{true, ◌&&◌}
use lib.ListN.{length}
use native.Mathlib.Omega.{arith}
use Rattle.ground.proofs.Bounded.{all-zero, all_more, all-stop, all_done}
use Rattle.ground.proofs.Bools.{passed, failed, and-fst, and-snd, and-false}
use Rattle.ground.proofs.Writes.{read-any}
use Rattle.threads.proofs.Places.{length-mapped}
use Rattle.threads.specs.Threads.{idle}
use Rattle.bundle.specs.Program.{program_of}
use Rattle.belongs.specs.Belongs.{state_ok, threads_ok, thread_ok_at, counts_ok, thread_counts_ok_at, words_agree, word_agrees_at}
use Rattle.belongs.proofs.Belongs.{objects-elim, counts-elim, words-elim}
use Rattle.belongs.proofs.Words.{thread-stop, apart-sole}
use Rattle.belongs.proofs.state_ok.Goals as goal

pub returns-then-not-objects_ok : goal.returns-then-not-objects_ok
unfolding state_ok
returns-then-not-objects_ok c = rw (failed c.objects_ok.ensures (ap not c.if-not-objects_ok.true))

pub returns-then-not-fields_ok : goal.returns-then-not-fields_ok
unfolding state_ok
returns-then-not-fields_ok c = rw (failed c.fields_ok.ensures (ap not c.if-not-fields_ok.true), and-false)

pub loop-i-init : goal.loop-i-init
loop-i-init c = (all-zero _, all-zero _, all-zero _)

pub returns-then-not-thread_ok : goal.returns-then-not-thread_ok
unfolding state_ok threads_ok
returns-then-not-thread_ok c =
    let a = c.args in
    let l : length a.s.threads ≡ 8 = search (rules, length-mapped) in
    let e = read-any a.s.threads c.loop-i.i idle _ (omega arith) in
    rw (
      all-stop (thread_ok_at (program_of a.b.now) a.s) 8 c.loop-i.i c.loop-i-test.true (rw e (failed c.thread_ok.ensures (ap not c.if-not-thread_ok.true))),
      and-false,
    )

pub returns-then-not-thread_held_ok : goal.returns-then-not-thread_held_ok
unfolding state_ok
returns-then-not-thread_held_ok c =
    let s = c.args.s in
    let l : length s.threads ≡ 8 = search (rules, length-mapped) in
    let e = read-any s.threads c.loop-i.i idle _ (omega arith) in
    rw (thread-stop s _ c.loop-i.i c.loop-i-test.true (rw e (failed c.thread_held_ok.ensures (ap not c.if-not-thread_held_ok.true))))

pub loop-i-preserved : goal.loop-i-preserved
loop-i-preserved c =
    let s = c.args.s in
    let l : length s.threads ≡ 8 = search (rules, length-mapped) in
    let e = read-any s.threads c.loop-i.i idle _ (omega arith) in
    let i = c.loop-i.i in
    let both : (thread_counts_ok_at s i && word_agrees_at s i) ≡ true = rw e (passed c.thread_held_ok.ensures (ap not c.if-not-thread_held_ok.false)) in (
      all_more _ _ c.loop-i.invariant.0 (rw e (passed c.thread_ok.ensures (ap not c.if-not-thread_ok.false))),
      all_more _ _ c.loop-i.invariant.1 (and-fst (thread_counts_ok_at s i) (word_agrees_at s i) both),
      all_more _ _ c.loop-i.invariant.2 (and-snd (thread_counts_ok_at s i) (word_agrees_at s i) both),
    )

pub returns : goal.returns
unfolding state_ok threads_ok counts_ok words_agree
returns c =
    let a = c.args in
    let turn = c.loop-i in
    let objects = passed c.objects_ok.ensures (ap not c.if-not-objects_ok.false) in
    let counts = all_done _ 8 _ (omega arith) c.loop-i-test.false turn.invariant.1 in
    let words = all_done _ 8 _ (omega arith) c.loop-i-test.false turn.invariant.2 in
    rw (
      objects,
      passed c.fields_ok.ensures (ap not c.if-not-fields_ok.false),
      ← all_done _ 8 _ (omega arith) c.loop-i-test.false turn.invariant.0,
      ← counts,
      ← words,
    )
    (c.bits_apart.ensures ∙ apart-sole a.s (words-elim (program_of a.b.now) a.s (sym words)) (objects-elim (program_of a.b.now) a.s objects) (counts-elim (program_of a.b.now) a.s (sym counts)))
