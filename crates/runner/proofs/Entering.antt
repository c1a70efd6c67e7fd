-- monitorenter and monitorexit: what is known there, and that what their functions write is document 01's step.
use mathlib.Core.List.{List}
use mathlib.Core.Path.{◌≡◌, refl, sym, ap, subst, ◌∙◌}
use mathlib.Core.Bool.{Bool, true, false, cond, not}
use Prim.Native.Nat.{ℕ, ◌+◌, ◌*◌, ◌<◌, ◌≤◌}
use lib.Dec.{ltb, leb, eqb}
use lib.ListN.{set}
use native.Mathlib.Omega.{arith}
use borrow.Author.Tests.{ltb-true, not-true}
use Rattle.ground.specs.Bytes.{at}
use Rattle.ground.specs.Chain.{refuse}
use Rattle.ground.proofs.Bools.{never}
use Rattle.held.specs.Word.{marked}
use Rattle.instructions.specs.declared.Addr.{Addr}
use Rattle.instructions.specs.declared.Var.{Var}
use Rattle.instructions.specs.declared.Instruction.{Instruction}
use Rattle.instructions.specs.declared.Instruction.TheVariants.{Enter, Exit}
use Rattle.bundle.specs.Program.{program_of}
use Rattle.values.specs.declared.Slot.{Slot}
use Rattle.values.specs.declared.Value.{Value}
use Rattle.values.specs.declared.Value.TheVariants.{Int as num, Ref as ref, Null as null}
use Rattle.values.specs.Values.{is_int, is_null, is_ref, is_int_value, is_null_value, is_ref_value, object_of}
use Rattle.threads.specs.declared.Thread.{Thread}
use Rattle.threads.specs.Threads.{var_of}
use Rattle.state.specs.State.{count_of, others_free}
use Rattle.belongs.proofs.Belongs.{refers-object}
use Rattle.turns.specs.Answers.{test}
use Rattle.turns.specs.Faults.{lock_of}
use Rattle.turns.specs.Waits.{wait_of}
use Rattle.turns.specs.Moves.{counted, throw_move, fail_move, move_of}
use Rattle.memory.specs.Words.{slot_of, object_in}
use Rattle.memory.specs.Frames.{address_in, thread_in, var_in, went_in, thrown_in}
use Rattle.memory.proofs.Meaning.{word-object, ref-object, null-high}
use Rattle.memory.proofs.Writes.{var-read}
use Rattle.memory.proofs.Frames.{went-is}
use Rattle.runner.specs.declared.table.Row.{Row}
use Rattle.runner.specs.declared.running.Memory.{Memory}
use Rattle.runner.specs.Memory.{frame_of, framed, state_from, Acted, acted}
use Rattle.runner.specs.Locks.{held_by_other, counted_in, entered_in, left_in}
use Rattle.runner.specs.Poised.{Poised, Turned}
use Rattle.runner.proofs.Stores.{threads-set, sized_set}
use Rattle.runner.proofs.Others.{held-by-other}
use Rattle.runner.proofs.Known.{test-holds, test-rest, F, M, X, few-vars, next_fits, frame_16, placed-here}
use Rattle.runner.proofs.Steps.{quiet, listed, goes, waits, threw}

-- the thread, and the word in its variable v
abbrev pub Here : Memory → ℕ → Thread
Here m i = thread_in (frame_of m.frames i)

abbrev pub Word : Memory → ℕ → Var → ℕ
Word m i v = var_in (frame_of m.frames i) v.0

-- what is neither an integer nor null refers
pub refers-else : (x : Slot) → is_int x ≡ false → is_null x ≡ false → is_ref x ≡ true
refers-else x e f = go x.value e f
  where
    go : (v : Value) → is_int_value v ≡ false → is_null_value v ≡ false → is_ref_value v ≡ true
    go (num k) e f = never refl e
    go (ref o) e f = refl
    go null e f = never refl f

pub either : {A : Type 0} (Q : A → Type 0) (t : Bool) (x y : A) → (t ≡ true → Q x) → (t ≡ false → Q y) → Q (cond t x y)
either Q true x y f g = f refl
either Q false x y f g = g refl

module _ (b : List ℕ) (table : List Row) (m : Memory) (i : ℕ) (z : Poised b table m i) (fails : Bool) (v : Var) (lv : v.0 < (M b table m i z).vars) where
  value-is : var_of (Here m i) v.0 ≡ slot_of (Word m i v)
  value-is = var-read (F b table m i z) v.0 (omega (arith, few-vars b table m i z))

  null_is : is_null (var_of (Here m i) v.0) ≡ leb 4294967552 (Word m i v)
  null_is = ap is_null value-is ∙ null-high (Word m i v)

  -- the variable refers to an object
  module _ (r : is_ref (var_of (Here m i) v.0) ≡ true) where
    pub object-is : object_in (Word m i v) ≡ lock_of (Here m i) v
    object-is = ref-object (Word m i v) (subst (λ (x : Slot). is_ref x ≡ true) value-is r) ∙ ap object_of (sym value-is)

    pub object-32 : object_in (Word m i v) < 32
    object-32 =
        omega (arith, object-is, refers-object m.objects (var_of (Here m i) v.0) ((placed-here b table m i z).variable_refers v.0 lv) r, z.running.inv.whole.objects_32)

    others-are : held_by_other m.held i (object_in (Word m i v)) ≡ not (others_free m.counts i (object_in (Word m i v)))
    others-are =
        held-by-other m.held m.counts i (object_in (Word m i v)) z.thread_8 (λ j l. z.running.inv.whole.worded j (object_in (Word m i v)) l object-32)
        (λ j l n k. z.running.inv.whole.one_holder i j (object_in (Word m i v)) z.thread_8 l object-32 (λ q. n (sym q)) k)

    -- the count becomes n
    counted-turned : (x : Instruction) → X b table m i z ≡ x → wait_of (state_from m) i (Here m i) x ≡ 0 → (n : ℕ)
        → move_of (program_of b) (state_from m) i (Here m i) (M b table m i z) fails x ≡ counted (state_from m) i (Here m i) (object_in (Word m i v)) n
        → Turned b m (counted_in m i (object_in (Word m i v)) n (address_in (F b table m i z) + 1)) 0 i fails
    counted-turned x q w n e =
        let h = went-is (F b table m i z) (Here m i) (address_in (F b table m i z) + 1) (record { sized = frame_16 b table m i z; thread = refl }) (next_fits b table m i z) in
        goes b table m i z fails x q w _ 0
        (sized_set m.frames i (went_in (F b table m i z) (address_in (F b table m i z) + 1)) z.running.sized.frames_8 z.thread_8 m.fields z.running.sized h.sized)
        (e
        ∙ ap (λ (ts : List Thread). record {
          answer = 0;
          state = record {
            threads = ts;
            counts = set m.counts (i * 32 + object_in (Word m i v)) n;
            objects = m.objects;
            classes = m.classes;
            fields = (state_from m).fields;
            held = set m.held i (marked (at m.held i) (object_in (Word m i v)) n);
          };
        })
        (sym (threads-set m.frames i (went_in (F b table m i z) (address_in (F b table m i z) + 1)) z.running.sized.frames_8 z.thread_8 _ h.thread)))

-- ---- monitorenter
module _ (b : List ℕ) (table : List Row) (m : Memory) (i : ℕ) (z : Poised b table m i) (fails : Bool) (v : Var) (h : Addr) (q : X b table m i z ≡ Enter v h) where
  enter-var : v.0 < (M b table m i z).vars
  enter-var = (listed b table m i z fails (Enter v h) q).0

  no-integer : is_int (var_of (Here m i) v.0) ≡ false
  no-integer = not-true _ (test-holds (not (is_int (var_of (Here m i) v.0))) 13 _ (omega arith) (quiet b table m i z fails (Enter v h) q))

  -- it is not null
  module _ (n : is_null (var_of (Here m i) v.0) ≡ false) where
    enter-lock : is_ref (var_of (Here m i) v.0) ≡ true
    enter-lock = refers-else (var_of (Here m i) v.0) no-integer n

    few : count_of m.counts i (lock_of (Here m i) v) < 2047
    few =
        ltb-true _ 2047 (test-holds (ltb (count_of m.counts i (lock_of (Here m i) v)) 2047) 16 0 (omega arith)
        (rw n at (test-rest (not (is_int (var_of (Here m i) v.0))) 13 _ (omega arith) (quiet b table m i z fails (Enter v h) q))))

    enter-bounds : (object_in (Word m i v) < 32) × (at m.counts (i * 32 + object_in (Word m i v)) < 65535)
    enter-bounds =
        (object-32 b table m i z fails v enter-var enter-lock, let k = few in let e = object-is b table m i z fails v enter-var enter-lock in rw e (omega (arith, k)))

  not_null : leb 4294967552 (Word m i v) ≡ false → is_null (var_of (Here m i) v.0) ≡ false
  not_null e = null_is b table m i z fails v enter-var ∙ e

  pub enter-known : (i < 8) × (leb 4294967552 (var_in (F b table m i z) v.0) ≡ false
      → (object_in (var_in (F b table m i z) v.0) < 32) × (at m.counts (i * 32 + object_in (var_in (F b table m i z) v.0)) < 65535))
  enter-known = (z.thread_8, λ e. enter-bounds (not_null e))

  pub enter-turned : (r : ℕ) (m' : Memory)
      → acted r m' ≡ entered_in m i (M b table m i z).vars v.0 h.0 (address_in (F b table m i z) + 1) → Turned b m m' r i fails
  unfolding entered_in refuse
  enter-turned r m' e =
      subst Q (sym e)
      (either Q (leb 4294967552 (Word m i v)) _ _ null-throws
      (λ f. either Q (held_by_other m.held i (object_in (Word m i v))) _ _ (other f) (free f)))
    where
      Q : Acted → Type 0
      Q x = Turned b m x.after x.answer i fails

      null-throws : leb 4294967552 (Word m i v) ≡ true → Turned b m (framed m i (thrown_in (F b table m i z) (M b table m i z).vars h.0 4294967296)) (cond (eqb h.0 0) 2 0) i fails
      null-throws f =
          let n : is_null (var_of (Here m i) v.0) ≡ true = null_is b table m i z fails v enter-var ∙ f in
          threw b table m i z fails (Enter v h) q (rw n) h 4294967296 (listed b table m i z fails (Enter v h) q).1 (thrown n)
        where
          thrown : is_null (var_of (Here m i) v.0) ≡ true
              → cond (is_null (var_of (Here m i) v.0)) (fail_move (state_from m) i (Here m i) (M b table m i z).vars h) (counted (state_from m) i (Here m i) (lock_of (Here m i) v) (count_of m.counts i (lock_of (Here m i) v) + 1))
              ≡ throw_move (state_from m) i (Here m i) (M b table m i z).vars h (slot_of 4294967296)
          thrown n = rw n (ap (throw_move (state_from m) i (Here m i) (M b table m i z).vars h) (sym (word-object 0 (omega arith))))

      free-is : (f : leb 4294967552 (Word m i v) ≡ false) (t : Bool) → held_by_other m.held i (object_in (Word m i v)) ≡ t → others_free m.counts i (lock_of (Here m i) v) ≡ not t
      free-is f t g =
          let r = enter-lock (not_null f) in
          subst (λ (o : ℕ). others_free m.counts i o ≡ not t) (object-is b table m i z fails v enter-var r)
          (turn (others_free m.counts i (object_in (Word m i v))) (sym (others-are b table m i z fails v enter-var r) ∙ g))
        where
          turn : (y : Bool) → not y ≡ t → y ≡ not t
          turn true k = rw (← k)
          turn false k = rw (← k)

      wait-is : (f : leb 4294967552 (Word m i v) ≡ false) (y : Bool) → others_free m.counts i (lock_of (Here m i) v) ≡ y → wait_of (state_from m) i (Here m i) (Enter v h) ≡ test y 3 0
      wait-is f y g = rw (not_null f, g)

      other : leb 4294967552 (Word m i v) ≡ false → held_by_other m.held i (object_in (Word m i v)) ≡ true → Q (acted 3 m)
      other f g = waits b table m i z fails (Enter v h) q 3 (wait-is f false (free-is f true g)) (omega arith)

      free : leb 4294967552 (Word m i v) ≡ false → held_by_other m.held i (object_in (Word m i v)) ≡ false
          → Q (acted 0 (counted_in m i (object_in (Word m i v)) (at m.counts (i * 32 + object_in (Word m i v)) + 1) (address_in (F b table m i z) + 1)))
      free f g =
          let r = enter-lock (not_null f) in
          counted-turned b table m i z fails v enter-var r (Enter v h) q (wait-is f true (free-is f false g)) (at m.counts (i * 32 + object_in (Word m i v)) + 1)
          (rw (not_null f, ← object-is b table m i z fails v enter-var r))

-- ---- monitorexit
module _ (b : List ℕ) (table : List Row) (m : Memory) (i : ℕ) (z : Poised b table m i) (fails : Bool) (v : Var) (q : X b table m i z ≡ Exit v) where
  exit-var : v.0 < (M b table m i z).vars
  exit-var = (listed b table m i z fails (Exit v) q).0

  exit-lock : is_ref (var_of (Here m i) v.0) ≡ true
  exit-lock = test-holds (is_ref (var_of (Here m i) v.0)) 13 _ (omega arith) (quiet b table m i z fails (Exit v) q)

  holds : 0 < count_of m.counts i (lock_of (Here m i) v)
  holds =
      ltb-true 0 _ (test-holds (ltb 0 (count_of m.counts i (lock_of (Here m i) v))) 14 0 (omega arith)
      (test-rest (is_ref (var_of (Here m i) v.0)) 13 _ (omega arith) (quiet b table m i z fails (Exit v) q)))

  pub exit-known : (i < 8) × (object_in (var_in (F b table m i z) v.0) < 32) × (1 ≤ at m.counts (i * 32 + object_in (var_in (F b table m i z) v.0)))
  exit-known = (z.thread_8, object-32 b table m i z fails v exit-var exit-lock, let k = holds in let e = object-is b table m i z fails v exit-var exit-lock in rw e (omega (arith, k)))

  pub exit-turned : (m' : Memory) → m' ≡ left_in m i v.0 (address_in (F b table m i z) + 1) → Turned b m m' 0 i fails
  unfolding left_in
  exit-turned m' e =
      subst (λ (x : Memory). Turned b m x 0 i fails) (sym e)
      (counted-turned b table m i z fails v exit-var exit-lock (Exit v) q refl _ (rw (← object-is b table m i z fails v exit-var exit-lock)))
