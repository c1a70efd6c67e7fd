-- THEOREM: a fresh machine has a state of the bundle, where it can be read.
use mathlib.Core.Path.{◌≡◌, refl}
use mathlib.Core.Bool.{true}
use mathlib.Core.List.{List}
use Prim.Native.Nat.{ℕ, ◌+◌, ◌*◌, ◌<◌}
use native.Mathlib.Omega.{arith}
use lib.ListN.{get_or-replicate}
use Rattle.ground.proofs.Bools.{never}
use Rattle.ground.specs.Chain.{refuse}
use Rattle.held.proofs.Word.{no_bits}
use Rattle.bundle.specs.Program.{Program, program_of}
use Rattle.structure.proofs.Structured.{WellFormed}
use Rattle.values.specs.declared.Slot.{Slot}
use Rattle.values.specs.Values.{zero_slot, refers}
use Rattle.threads.specs.Threads.{idle}
use Rattle.state.specs.State.{thread_at, count_of, field_of, fields_with, with_object, empty_state}
use Rattle.belongs.specs.Belongs.{state_ok}
use Rattle.belongs.proofs.Belongs.{Placed, Belongs, belongs-intro}
use Rattle.turns.specs.Moves.{first_fields}
use Rattle.machine.specs.Machine.{main_thread, fresh_state, readable, fresh_of}
use Rattle.machine.proofs.Ready.{formed}
use Rattle.machine.proofs.Writes.{fields_in}
use Rattle.machine.proofs.Changes.{Sized, grown, first-refers, thread-belongs}

empty-thread : (i : ℕ) → i < 8 → thread_at empty_state i ≡ idle
empty-thread i l = get_or-replicate 8 i idle idle l

empty-count : (i o : ℕ) → i < 8 → o < 32 → count_of empty_state.counts i o ≡ 0
empty-count i o l k = get_or-replicate 256 (i * 32 + o) 0 0 (omega arith)

-- object 0's fields are as new writes them
fresh-refers : (P : Program) → WellFormed P → (f : ℕ) → f < (P.method P.exception).fields
    → refers 1 (field_of (fields_with empty_state.fields 0 (first_fields (P.method P.exception))) 0 f) ≡ true
fresh-refers P wf f k =
    let l : f < 4 = omega (arith, wf.fields_4 P.exception wf.exception) in
    fields_in (λ (y : Slot). refers 1 y ≡ true) empty_state.fields (first_fields (P.method P.exception)) 0 0 f l refl (λ q. first-refers (P.method P.exception) 1 f l) (λ q. absurd (q refl))

-- object 0 alone, and no live thread
one-belongs : (P : Program) → WellFormed P → Belongs P (grown empty_state P.exception (first_fields (P.method P.exception)))
one-belongs P wf =
    record {
      live_placed = λ i l a. never (rw (empty-thread i l) at a) refl;
      some_object = omega arith;
      first_class = refl;
      objects_32 = omega arith;
      object_class = λ o l. let q : o ≡ 0 = omega arith in rw q wf.exception;
      field_refers = λ o f l k. let q : o ≡ 0 = omega arith in rw q (fresh-refers P wf f (rw q at k));
      counted = λ i o l k. rw (empty-count i o l k) (record { count_2047 = omega arith; on_object = λ n. absurd (omega arith); by_live = λ n. absurd (omega arith) });
      one_holder = λ i j o l k m a b. absurd (omega (arith, empty-count i o l m));
      worded = λ i o l k. rw (get_or-replicate {A = ℕ} 8 i 0 0 l, empty-count i o l k) (no_bits o);
    }

fresh-placed : (P : Program) → WellFormed P → Placed P 1 main_thread
fresh-placed P wf =
    record {
      class_known = wf.some_class;
      address_first = omega arith;
      address_last = wf.some_code 0 wf.some_class;
      depth_limit = omega arith;
      variable_refers = λ v l. rw (get_or-replicate 16 v zero_slot zero_slot (omega (arith, wf.vars_16 0 wf.some_class))) refl;
      stack_refers = λ q l. absurd (omega arith);
    }

-- (with 17 there is no object, and so no state of the bundle)
pub fresh-belongs : (b : List ℕ) → readable b ≡ true → state_ok (program_of b) (fresh_of b).state ≡ true
unfolding fresh_of refuse with_object
fresh-belongs b e =
    rw e
    (belongs-intro (program_of b) (fresh_state (program_of b))
    (thread-belongs (program_of b) (grown empty_state (program_of b).exception (first_fields ((program_of b).method (program_of b).exception))) (one-belongs (program_of b) (formed b e)) 0 main_thread (λ a. fresh-placed (program_of b) (formed b e)) (λ o l n. refl)))

pub fresh-sized : (b : List ℕ) → readable b ≡ true → Sized (fresh_of b).state
unfolding fresh_of refuse with_object
fresh-sized b e = rw e (record { counts_256 = refl; held_8 = refl })
