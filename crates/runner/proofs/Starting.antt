-- start: what is known there, and that what its function writes is document 01's step.
use mathlib.Core.List.{List}
use mathlib.Core.Path.{◌≡◌, refl, sym, ap, subst, ◌∙◌}
use mathlib.Core.Logic.{◌≢◌}
use mathlib.Core.Bool.{Bool, true, false, not}
use Prim.Native.Nat.{ℕ, zero, suc, ◌+◌, ◌<◌, ◌≤◌}
use lib.Dec.{ltb, leb}
use lib.ListN.{length, get_or, set, length-set}
use native.Mathlib.Omega.{arith}
use borrow.Author.Tests.{leb-true, leb-false, lt-ltb, le-ltb, not-true}
use Rattle.ground.specs.Chain.{refuse}
use Rattle.ground.specs.Bounded.{first_below}
use Rattle.ground.proofs.Bools.{never}
use Rattle.ground.proofs.Bounded.{first-is}
use Rattle.instructions.specs.declared.Instruction.TheVariants.{Start}
use Rattle.bundle.specs.Program.{program_of}
use Rattle.threads.specs.declared.Thread.{Thread}
use Rattle.threads.specs.Threads.{with_at, popped, started}
use Rattle.state.specs.State.{not_live, lowest_free}
use Rattle.turns.specs.Stepped.{Stepped}
use Rattle.turns.specs.Answers.{test}
use Rattle.turns.specs.Faults.{has}
use Rattle.turns.specs.Waits.{wait_of}
use Rattle.turns.specs.Moves.{move_of}
use Rattle.memory.specs.Tab.{tab}
use Rattle.memory.specs.declared.Frame.{Frame}
use Rattle.memory.specs.Frames.{live_in, address_in, depth_in, thread_in, went_in, dropped_in, argument_in, begun_in}
use Rattle.memory.proofs.Frames.{Is, dropped-is, begun-is}
use Rattle.runner.specs.declared.table.Row.{Row}
use Rattle.runner.specs.declared.running.Memory.{Memory}
use Rattle.runner.specs.Memory.{memory, frame_of, thread_from, state_from, Sized, Acted, acted}
use Rattle.runner.specs.Starts.{idle_in, lowest_in, started_in}
use Rattle.runner.specs.Poised.{Poised, Turned}
use Rattle.runner.proofs.Stores.{frame-other, threads-set, sized_set}
use Rattle.runner.proofs.Known.{test-holds, thread-is, F, M, X, formed, depth-16, frame_16, args_are}
use Rattle.runner.proofs.Steps.{quiet, listed, goes, waits}
use Rattle.runner.proofs.Entering.{Here, either}
use Rattle.runner.proofs.Making.{on}

first-same : (n : ℕ) (f g : ℕ → Bool) → ((j : ℕ) → j < n → f j ≡ g j) → first_below n f ≡ first_below n g
unfolding first_below
first-same zero f g e = refl
first-same (suc n) f g e = rw (e 0 (omega arith), first-same n (λ j. f (suc j)) (λ j. g (suc j)) (λ j l. e (suc j) (omega arith)))

module _ (b : List ℕ) (table : List Row) (m : Memory) (i : ℕ) (z : Poised b table m i) (fails : Bool) (c : ℕ) (q : X b table m i z ≡ Start c) where
  abbrev J : ℕ
  J = lowest_in m.frames

  lowest-is : lowest_free (state_from m) ≡ lowest_in m.frames
  unfolding lowest_free lowest_in
  lowest-is = first-same 8 (not_live (state_from m)) (idle_in m.frames) (λ j l. ap (λ (t : Thread). not t.live) (thread-is b table m z.running j l))

  class_known : c < (program_of b).classes
  class_known = (listed b table m i z fails (Start c) q).0

  pub start-class : c < 8
  start-class = omega (arith, class_known, (formed b table m i z).few_classes)

  few-args : ((program_of b).method c).args ≤ 16
  few-args = omega (arith, (formed b table m i z).args_vars c class_known, (formed b table m i z).vars_16 c class_known)

  pub start-known : (n : ℕ) (d : Row) → n ≡ (get_or table c d).args → (i < 8) × (n < 255)
  start-known n d e = (z.thread_8, omega (arith, args_are b table m i z c d class_known, few-args))

  deep : ((program_of b).method c).args + 1 ≤ depth_in (F b table m i z)
  deep = leb-true _ _ (test-holds (has (((program_of b).method c).args + 1) (Here m i)) 11 _ (omega arith) (quiet b table m i z fails (Start c) q))

  wait-is : (t : Bool) → ltb (lowest_in m.frames) 8 ≡ t → wait_of (state_from m) i (Here m i) (Start c) ≡ test t 4 0
  wait-is t e = rw (lowest-is, e)

  -- the new thread is another one
  module _ (l : lowest_in m.frames < 8) where
    new-idle : idle_in m.frames J ≡ true
    unfolding lowest_in
    new-idle = first-is 8 (idle_in m.frames) l

    other : i ≢ J
    other e = never z.live (subst (λ (j : ℕ). live_in (frame_of m.frames j) ≡ false) (sym e) (not-true _ new-idle))

    -- what is written, with n arguments
    module _ (n : ℕ) (en : n ≡ ((program_of b).method c).args) where
      abbrev First : Frame
      First = begun_in (frame_of m.frames J) (tab 16 (argument_in (frame_of m.frames i) n)) c

      abbrev Next : List Frame
      Next = set m.frames J First

      abbrev Last : Frame
      Last = went_in (dropped_in (n + 1) (frame_of Next i)) (address_in (F b table m i z) + 1)

      first-thread : Is First (started (thread_in (frame_of m.frames J)) (Here m i) c n)
      first-thread =
          begun-is (frame_of m.frames J) (F b table m i z) (z.running.sized.frame_16 J l) (depth-16 b table m i z) n c (omega (arith, deep)) (omega (arith, start-class))

      last-thread : Is Last (with_at (popped (n + 1) (Here m i)) (address_in (F b table m i z) + 1))
      last-thread =
          rw (frame-other m.frames J First z.running.sized.frames_8 l i other)
          (on b table m i z _ _ (dropped-is (F b table m i z) (frame_16 b table m i z) (depth-16 b table m i z) (n + 1) (omega (arith, deep))))

      next-8 : length Next ≡ 8
      next-8 = length-set m.frames J First ∙ z.running.sized.frames_8

      all-threads : tab 8 (thread_from (set Next i Last))
          ≡ set (set (tab 8 (thread_from m.frames)) J (started (thread_in (frame_of m.frames J)) (Here m i) c n)) i (with_at (popped (n + 1) (Here m i)) (address_in (F b table m i z) + 1))
      all-threads =
          threads-set Next i Last next-8 z.thread_8 _ last-thread.thread
          ∙ ap (λ (ts : List Thread). set ts i (with_at (popped (n + 1) (Here m i)) (address_in (F b table m i z) + 1)))
          (threads-set m.frames J First z.running.sized.frames_8 l _ first-thread.thread)

      all-sized : Sized (set Next i Last) m.fields
      all-sized =
          sized_set Next i Last next-8 z.thread_8 m.fields (sized_set m.frames J First z.running.sized.frames_8 l m.fields z.running.sized first-thread.sized) last-thread.sized

      state-with : List Thread → Stepped
      state-with ts =
          record { answer = 0; state = record { threads = ts; counts = m.counts; objects = m.objects; classes = m.classes; fields = (state_from m).fields; held = m.held } }

      start-moves : move_of (program_of b) (state_from m) i (Here m i) (M b table m i z) fails (Start c) ≡ state-with (tab 8 (thread_from (set Next i Last)))
      unfolding state-with
      start-moves =
          rw (lowest-is, ← en)
          (ap (λ (v : Thread). state-with (set (set (tab 8 (thread_from m.frames)) J (started v (Here m i) c n)) i (with_at (popped (n + 1) (Here m i)) (address_in (F b table m i z) + 1))))
          (thread-is b table m z.running J l)
          ∙ ap state-with (sym all-threads))

      start-begins : Turned b m (memory (set Next i Last) m.counts m.held m.objects m.classes m.fields) 0 i fails
      unfolding state-with refuse
      start-begins = goes b table m i z fails (Start c) q (wait-is true (lt-ltb J 8 l)) _ 0 all-sized start-moves

  pub start-turned : (r : ℕ) (m' : Memory) (n : ℕ) (d : Row) → n ≡ (get_or table c d).args
      → acted r m' ≡ started_in m i n c (address_in (F b table m i z) + 1) → Turned b m m' r i fails
  unfolding started_in refuse
  start-turned r m' n d en e =
      subst Q (sym e)
      (either Q (leb 8 J) _ _ (λ f. waits b table m i z fails (Start c) q 4 (wait-is false (le-ltb J 8 (leb-true 8 J f))) (omega arith))
      (λ f. start-begins (leb-false 8 J f) n (en ∙ args_are b table m i z c d class_known)))
    where
      Q : Acted → Type 0
      Q x = Turned b m x.after x.answer i fails
