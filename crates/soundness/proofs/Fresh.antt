-- A thread that is born stands at row 1 of its class and holds nothing; and the fresh machine, where there is one such thread.
use Prim.Native.Nat.{ℕ, ◌+◌, ◌*◌, ◌≤◌, ◌<◌}
use mathlib.Core.Path.{◌≡◌, refl, sym}
use mathlib.Core.List.{List}
use mathlib.Core.Bool.{Bool, true, false, cond}
use native.Mathlib.Omega.{arith}
use native.Mathlib.Decide.{dec_lt}
use lib.Dec.{eqb}
use borrow.Author.Tests.{eqb-true}
use lib.IntN.{pos}
use lib.ListN.{length, replicate, get_or-replicate}
use Rattle.ground.specs.Bounded.{set_below}
use Rattle.instructions.specs.Table.{addr}
use Rattle.bundle.specs.Program.{Method}
use Rattle.entries.specs.Entries.{Int, Top, Ref, Blank, no_end, dip_of, end_of, argument_entry, field_entry}
use Rattle.rows.specs.Rows.{Row}
use Rattle.rows.specs.Typed.{Typed}
use Rattle.values.specs.declared.Value.TheVariants.{Int as num}
use Rattle.values.specs.declared.Slot.{Slot}
use Rattle.values.specs.Values.{zero_slot}
use Rattle.threads.specs.declared.Thread.{Thread}
use Rattle.threads.specs.Threads.{idle}
use Rattle.state.specs.declared.State.{State}
use Rattle.state.specs.State.{count_of, class_of, field_of, empty_state}
use Rattle.turns.specs.Moves.{first_fields}
use Rattle.machine.specs.Machine.{main_thread, fresh_state}
use Rattle.held.proofs.Word.{no_bits}
use Rattle.machine.proofs.Changes.{grown}
use Rattle.soundness.specs.Balance.{Matches, slot_of, value_in}
use Rattle.soundness.specs.Invariant.{entry_at, Live, Inv}
use Rattle.rules.proofs.Held.{compared}
use Rattle.soundness.proofs.Weights.{same-weaker, meets-weaker, gone-slot, fresh-slot}
use Rattle.soundness.proofs.Weights as weights
use Rattle.soundness.proofs.Balance.{keep_all, none-balanced}
use Rattle.soundness.proofs.Slots.{slot-var, slot-novar, slot-nostack}
use Rattle.soundness.proofs.Values.{value-zero}
use Rattle.soundness.proofs.FieldPlaces.{fields-length, fields-written, made-kind}
use Rattle.soundness.proofs.Accepted.{Accepted}
use Rattle.soundness.proofs.Moves.{others, live-standing, asleep-standing, thread-moves, grown-is}

abbrev pub born : ℕ → List Slot → List Slot → Thread
born c vars stack = record { live = true; class = c; at = addr 1; depth = 0; vars = vars; stack = stack }

argument-pair : (d : ℕ) → (dip_of (argument_entry d) ≡ 0) × (end_of (argument_entry d) ≡ no_end)
unfolding argument_entry
argument-pair d = go (eqb d 255)
  where
    go : (b : Bool) → (dip_of (cond b Int (Ref d 0 no_end)) ≡ 0) × (end_of (cond b Int (Ref d 0 no_end)) ≡ no_end)
    go true = (refl, refl)
    go false = (refl, refl)

zeros : (i : ℕ) → i < 16 → value_in (replicate 16 zero_slot) (replicate 16 zero_slot) i ≡ num (pos 0)
unfolding set_below
zeros i b = value-zero 0 i (λ _. zero_slot) (replicate 16 zero_slot) (omega arith) b

module _ (P : Typed) (A : Accepted P) where
  module _ (n : ℕ) (cls k : ℕ → ℕ) (c : ℕ) (lc : c < P.program.classes) (vars stack : List Slot) (lv : length vars ≡ 16) (ls : length stack ≡ 16) where
    abbrev Vars : ℕ
    Vars = (P.program.method c).vars

    abbrev X : Row
    X = P.row c 1

    -- its variables are arguments of their kinds, and 0
    pub born-live : ((o : ℕ) → o < 32 → k o ≡ 0)
        → ((i : ℕ) → i < (P.program.method c).args → Matches n cls (argument_entry ((P.program.method c).descriptor i)) (value_in vars stack i))
        → ((i : ℕ) → (P.program.method c).args ≤ i → i < 16 → value_in vars stack i ≡ num (pos 0))
        → Live P n cls k (born c vars stack)
    born-live z m zero =
        record {
          alive = refl;
          address = record { class_known = lc; first = omega arith; last = A.formed.some_code c lc };
          stands = record {
            sized = record { vars = lv; stack = ls };
            depth_exact = sym (A.first_depth c lc);
            balanced = keep_all n cls (λ s. Blank) (value_in vars stack) k (entry_at P c 1) (value_in vars stack)
                (λ s l. each s l (dec_lt s (P.program.method c).args) (dec_lt s Vars) (dec_lt s 16)) (none-balanced n cls (value_in vars stack) k z);
          };
        }
      where
        v16 : Vars ≤ 16
        v16 = A.formed.vars_16 c lc

        each : (s : ℕ) → s < 32 → Dec (s < (P.program.method c).args) → Dec (s < Vars) → Dec (s < 16)
            → weights.Slot n cls Blank (value_in vars stack s) (slot_of Vars X s) (value_in vars stack s)
        each s l (yes a) b d =
            rw (slot-var Vars v16 X s (omega (arith, A.formed.args_vars c lc)))
            (fresh-slot n cls (value_in vars stack s) (argument_entry ((P.program.method c).descriptor s)) (X.variable s) (value_in vars stack s)
            (argument-pair ((P.program.method c).descriptor s)).0 (argument-pair ((P.program.method c).descriptor s)).1 (m s a)
            (meets-weaker (argument_entry ((P.program.method c).descriptor s)) (X.variable s) (compared _ _ (eqb-true _ _ (A.first_argument c s lc a)))))
        each s l (no a) (yes b) d =
            rw (slot-var Vars v16 X s b, A.first_other c s lc (omega arith) b, zero s (omega arith) (omega (arith, v16)))
            (fresh-slot n cls (num (pos 0)) Top Top (num (pos 0)) refl refl tt (same-weaker Top))
        each s l (no a) (no b) (yes d) =
            rw (slot-novar Vars v16 X s (omega arith) d) (gone-slot n cls Blank (value_in vars stack s) (value_in vars stack s) (omega arith))
        each s l (no a) (no b) (no d) =
            rw (slot-nostack Vars v16 X s (omega (arith, A.first_depth c lc)))
            (gone-slot n cls Blank (value_in vars stack s) (value_in vars stack s) (omega arith))

  no-count : (i o : ℕ) → i < 8 → o < 32 → count_of (replicate 256 0) i o ≡ 0
  no-count i o l k = get_or-replicate 256 (i * 32 + o) 0 0 (omega arith)

  abbrev thrown : Method
  thrown = P.program.method P.program.exception

  -- object 0 alone, and no live thread
  abbrev One : State
  One = grown empty_state P.program.exception (first_fields (P.program.method P.program.exception))

  first_field : (f : ℕ) → f < thrown.fields → Matches 1 (class_of One) (field_entry (thrown.field f)) (field_of One.fields 0 f).value
  first_field f l =
      fields-written (replicate 128 zero_slot) 0 (first_fields thrown) (λ (x : Slot). Matches 1 (class_of One) (field_entry (thrown.field f)) x.value) 0 f (omega arith) (omega (arith, few))
      (λ _. made-kind 1 (class_of One) thrown f few l) (λ n. absurd (n refl))
    where
      few : thrown.fields ≤ 4
      few = A.formed.fields_4 P.program.exception A.formed.exception

  inv-one : Inv P One
  inv-one =
      record {
        whole = record {
          threads_8 = refl;
          counts_256 = refl;
          classes_32 = refl;
          fields_128 = fields-length (replicate 128 zero_slot) 0 (first_fields thrown);
          held_8 = refl;
          objects_32 = omega arith;
          some_object = omega arith;
          first_class = refl;
          object_class = λ o l. let q : o ≡ 0 = omega arith in rw q A.formed.exception;
          one_holder = λ i j o li lj lo x z. no-count j o lj lo;
          worded = λ i o l k. rw (get_or-replicate {A = ℕ} 8 i 0 0 l, no-count i o l k) (no_bits o);
          field_holds = λ o f l k. let q : o ≡ 0 = omega arith in rw q (first_field f (rw q at k));
        };
        thread = λ i l. rw (get_or-replicate 8 i idle idle l)
            (asleep-standing P 1 (class_of One) (count_of (replicate 256 0) i) idle refl
            (record { sized = record { vars = refl; stack = refl }; free = λ o k. no-count i o l k }));
      }

  -- THEOREM: the invariant holds of the fresh machine
  pub inv-fresh : Inv P (fresh_state P.program)
  inv-fresh =
      rw (grown-is empty_state P.program.exception (first_fields thrown) (omega arith))
      (thread-moves P One 0 (omega arith) (others P One inv-one 0) main_thread
      (live-standing P 1 (class_of One) (count_of (replicate 256 0) 0) main_thread
      (born-live 1 (class_of One) (count_of (replicate 256 0) 0) 0 A.formed.some_class (replicate 16 zero_slot) (replicate 16 zero_slot) refl refl
      (λ o k. no-count 0 o (omega arith) k) (λ i l. absurd (omega (arith, A.formed.main_args))) (λ i l b. zeros i b))))
