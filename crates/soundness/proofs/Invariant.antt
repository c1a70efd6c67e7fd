-- What the invariant says of a state: it is one of the bundle, no count passes 2,016, and who holds an object owes it. P is the typed program.
use Prim.Native.Nat.{ℕ, ◌-◌, ◌≤◌, ◌<◌}
use mathlib.Core.Path.{◌≡◌, refl}
use mathlib.Core.Bool.{Bool, true, false}
use native.Mathlib.Omega.{arith}
use native.Mathlib.Decide.{ℕ_discrete, dec_lt}
use lib.ListN.{get_or}
use Rattle.entries.specs.Entries.{Entry, no_end, end_of, field_entry}
use Rattle.rows.specs.Typed.{Typed}
use Rattle.values.specs.Values.{zero_slot, refers}
use Rattle.threads.specs.declared.Thread.{Thread}
use Rattle.threads.specs.Threads.{var_of, from_top}
use Rattle.state.specs.declared.State.{State}
use Rattle.state.specs.State.{thread_at, count_of, class_of, field_of}
use Rattle.belongs.specs.Belongs.{state_ok}
use Rattle.belongs.proofs.Belongs.{Placed, Counted, Belongs, belongs-intro}
use Rattle.soundness.specs.Balance.{names, value_of}
use Rattle.soundness.specs.Invariant.{entry_at, Live, Inv}
use Rattle.soundness.proofs.Kind.{type-refers, field-type}
use Rattle.soundness.proofs.Balance.{count-bound, far-free, held-slot}
use Rattle.soundness.proofs.Slots.{slot-each}
use Rattle.soundness.proofs.Stands.{variable-kind, entry-kind}
use Rattle.soundness.proofs.Accepted.{Accepted}

-- ---- what a live thread's invariant says
module _ (P : Typed) (A : Accepted P) (n : ℕ) (cls k : ℕ → ℕ) (t : Thread) (h : Live P n cls k t) where
  pub vars_16 : (P.program.method t.class).vars ≤ 16
  vars_16 = A.formed.vars_16 t.class h.address.class_known

  pub limit_16 : (P.program.method t.class).limit ≤ 16
  limit_16 = A.formed.limit_16 t.class h.address.class_known

  pub depth_limit : t.depth ≤ (P.program.method t.class).limit
  depth_limit = omega (arith, h.stands.depth_exact, A.depth_limit t.class t.at.0 h.address)

  pub bound-2016 : (o : ℕ) → o < 32 → k o ≤ 2016
  bound-2016 =
      count-bound n cls (entry_at P t.class t.at.0) (value_of t) k h.stands.balanced
      (λ s l. slot-each (P.program.method t.class).vars vars_16 (P.row t.class t.at.0) (λ (e : Entry). 1 ≤ end_of e) (omega arith)
      (λ i _. A.variable_end t.class t.at.0 i) (λ j _. A.stack_end t.class t.at.0 j) s)

  pub off-object : (o : ℕ) → o < 32 → n ≤ o → k o ≡ 0
  off-object = far-free n cls (entry_at P t.class t.at.0) (value_of t) k h.stands.balanced

  pub placed : Placed P.program n t
  placed =
      record {
        class_known = h.address.class_known;
        address_first = h.address.first;
        address_last = h.address.last;
        depth_limit = depth_limit;
        variable_refers = λ v l.
            type-refers n cls ((P.row t.class t.at.0).variable v) (var_of t v).value (A.variable_type t.class t.at.0 v h.address l)
            (variable-kind _ vars_16 n cls k _ t (omega (arith, depth_limit, limit_16)) h.stands v l);
        stack_refers = λ p l. stk p (t.depth - 1 - p) (omega arith) (omega arith);
      }
    where
      stk : (p j : ℕ) → t.depth - 1 - j ≡ p → j < t.depth → refers n (get_or t.stack p zero_slot) ≡ true
      stk p j q l =
          rw q
          at (type-refers n cls ((P.row t.class t.at.0).stack j) (from_top t j).value (A.stack_type t.class t.at.0 j h.address (omega (arith, h.stands.depth_exact)))
          (entry-kind _ vars_16 n cls k _ t (omega (arith, depth_limit, limit_16)) h.stands j l))

-- ---- the invariant rules out answer 18, and bounds every count
module _ (P : Typed) (A : Accepted P) (s : State) (inv : Inv P s) where
  pub bounded : (i o : ℕ) → i < 8 → o < 32 → count_of s.counts i o ≤ 2016
  bounded i o l k = go (thread_at s i).live refl
    where
      go : (b : Bool) → (thread_at s i).live ≡ b → count_of s.counts i o ≤ 2016
      go true q = bound-2016 P A s.objects (class_of s) (count_of s.counts i) (thread_at s i) ((inv.thread i l).live q) o k
      go false q = omega (arith, ((inv.thread i l).asleep q).free o k)

  pub belongs : Belongs P.program s
  belongs =
      record {
        live_placed = λ i l a. placed P A s.objects (class_of s) (count_of s.counts i) (thread_at s i) ((inv.thread i l).live a);
        some_object = inv.whole.some_object;
        first_class = inv.whole.first_class;
        objects_32 = inv.whole.objects_32;
        object_class = inv.whole.object_class;
        field_refers = λ o f l k.
            type-refers s.objects (class_of s) (field_entry ((P.program.method (class_of s o)).field f)) (field_of s.fields o f).value (field-type ((P.program.method (class_of s o)).field f)) (inv.whole.field_holds o f l k);
        counted = λ i o l k. counted i o l k (thread_at s i).live refl;
        one_holder = λ i j o a b l d f. sole i j o a b l d f (ℕ_discrete i j);
        worded = inv.whole.worded;
      }
    where
      on : (i o : ℕ) → i < 8 → o < 32 → (thread_at s i).live ≡ true → 0 < count_of s.counts i o → Dec (o < s.objects) → o < s.objects
      on i o l k q n (yes g) = g
      on i o l k q n (no g) =
          absurd (omega (
            arith,
            off-object P A s.objects (class_of s) (count_of s.counts i) (thread_at s i) ((inv.thread i l).live q) o k (omega arith),
          ))

      counted : (i o : ℕ) → i < 8 → o < 32 → (b : Bool) → (thread_at s i).live ≡ b → Counted s.objects (thread_at s i).live o (count_of s.counts i o)
      counted i o l k true q =
          record {
            count_2047 = omega (arith, bounded i o l k);
            on_object = λ n. on i o l k q n (dec_lt o s.objects);
            by_live = λ n. q;
          }
      counted i o l k false q =
          let z = ((inv.thread i l).asleep q).free o k in
          record { count_2047 = omega arith; on_object = λ n. absurd (omega arith); by_live = λ n. absurd (omega arith) }

      sole : (i j o : ℕ) → i < 8 → j < 8 → o < 32 → 0 < count_of s.counts i o → 0 < count_of s.counts j o → Dec (i ≡ j) → i ≡ j
      sole i j o a b l d f (yes q) = q
      sole i j o a b l d f (no q) = absurd (omega (arith, inv.whole.one_holder i j o a b l q d))

  pub state-ok : state_ok P.program s ≡ true
  state-ok = belongs-intro P.program s belongs

-- COROLLARY, for a lock order: a live thread that holds o has a slot with the value o, whose entry has a negative end
pub holder : (P : Typed) (s : State) → Inv P s → (i o : ℕ) → i < 8 → o < 32 → (thread_at s i).live ≡ true → 0 < count_of s.counts i o
    → (p : ℕ) × (p < 32) × (names o (value_of (thread_at s i) p) ≡ true) × (end_of (entry_at P (thread_at s i).class (thread_at s i).at.0 p) < no_end)
holder P s inv i o l k a h =
    held-slot s.objects (class_of s) (entry_at P (thread_at s i).class (thread_at s i).at.0) (value_of (thread_at s i)) (count_of s.counts i)
    ((inv.thread i l).live a).stands.balanced o k h
