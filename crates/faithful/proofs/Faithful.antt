-- THEOREM: what is written does what was read.
use mathlib.Core.Path.{◌≡◌, refl, sym, ◌∙◌, ap, subst}
use mathlib.Core.Bool.{Bool, true, false, cond}
use mathlib.Core.List.{List, [], ◌∷◌}
use Prim.Native.Nat.{ℕ, ◌+◌, ◌-◌, ◌*◌, ◌≤◌, ◌<◌}
use native.Mathlib.Omega.{arith}
use native.Mathlib.Decide.{ℕ_discrete}
use lib.ListN.{length, get_or, set, length-set}
use lib.Seq.{get_or-set_same, get_or-set_other, set-set}
use lib.Dec.{ltb, leb}
use borrow.Author.Tests.{lt-ltb, le-leb, ltb-true, leb-true, leb-false, eq-eqb, ne_eqb}
use Rattle.ground.specs.Bounded.{fill_from}
use Rattle.ground.proofs.Bools.{and-fst, and-snd, or-false-snd}
use Rattle.ground.proofs.Writes.{fill-length}
use Rattle.instructions.specs.declared.Instruction.{Instruction}
use Rattle.instructions.specs.declared.Instruction.TheVariants as instruction
use Rattle.instructions.specs.Table.{var, addr, decoded, table, find, line_of}
use Rattle.bundle.specs.Program.{Method, program_of}
use Rattle.values.specs.declared.Slot.{Slot}
use Rattle.values.specs.Values.{zero_slot, ref_slot, is_int, is_null, object_of, inc_slot, jumps}
use Rattle.threads.specs.declared.Thread.{Thread}
use Rattle.threads.specs.Threads.{with_at, with_stack, var_of, pushed, popped, topped, stored}
use Rattle.threads.specs.Threads as threads
use Rattle.state.specs.declared.State.{State}
use Rattle.state.specs.State.{thread_at, count_of, class_of, with_thread, with_count, with_object}
use Rattle.turns.specs.Stepped.{Stepped}
use Rattle.turns.specs.Answers.{test}
use Rattle.turns.specs.Faults.{has, room, throw_fault, push_fault, new_fails}
use Rattle.turns.specs.Moves as moves
use Rattle.belongs.specs.Belongs.{state_ok}
use Rattle.belongs.proofs.Belongs.{belongs-elim}
use Rattle.machine.specs.Machine.{readable, step_of}
use Rattle.machine.proofs.Ready.{formed}
use Rattle.machine.proofs.Stays.{step-belongs}
use Rattle.ground.specs.Chain.{refuse}
use Rattle.java.specs.declared.Java.{Java}
use Rattle.java.specs.declared.Java.TheVariants.{Nop, Pop, Iconst0, Load, Store, Ifne, Enter, Exit, New, Athrow, Return, Iinc, Other}
use Rattle.java.specs.Instructions.{java_at, size_at, gives_of}
use Rattle.java.specs.Classes.{class_number}
use Rattle.offsets.specs.Offsets.{begins, count_to, address_of}
use Rattle.offsets.specs.Handlers.{entries, handler_of, covered_by}
use Rattle.offsets.specs.Targets.{target_of, lands}
use Rattle.offsets.proofs.Offsets.{begins-next}
use Rattle.classfile.specs.Attribute.{code_of, table_of}
use Rattle.classfile.specs.Written.{row, handler_by, handler_for, rows_of}
use Rattle.classfile.specs.Taking.{taken_of}
use Rattle.classfile.proofs.Meaning.{walks, succeeds}
use Rattle.faithful.specs.Frames.{Frame, top_of, push, pop, changed, create, alone, enter, load, goes, uncaught, throws, does}
use Rattle.faithful.specs.Faithful.{Holds, top_first, seen, At, steps, told, Leaves, Faithful, IincGoes}
use Rattle.faithful.proofs.Carried.{carried}
use Rattle.faithful.proofs.Rows.{rows-at, address-in, next_address}
use Rattle.faithful.proofs.Stacks.{above, push-top, top-of, rest-of, pushed-is, caught-is, caught-alone}
use Rattle.faithful.proofs.Moves.{passed, Moved, step-moves, steps-none, steps-one, steps_first, steps_on, step-goes}

-- the thread that was put
put_is : (s : State) (i : ℕ) (t : Thread) → i < length s.threads → thread_at (with_thread s i t) i ≡ t
put_is s i t h = get_or-set_same s.threads i t threads.idle h

-- the stack plays no part in what is thrown
same-throw : (table : List ℕ) (offset : ℕ) (x y : Slot) (f : Frame) → throws table offset x (push y f) ≡ throws table offset x f
unfolding throws
same-throw table offset x y f = refl

-- what of a taken method is used: an instruction begins where an ifne and a handler lead
pub record Landing (code rescue : List ℕ) : Type 0 where
  pub branch : (p d : ℕ) → p < length code → begins code p ≡ true → java_at code p ≡ Ifne d → begins code (target_of code p d) ≡ true
  pub handler : (j : ℕ) → j < entries rescue → begins code (handler_of rescue j) ≡ true

module _ (b classes code rescue : List ℕ) (c : ℕ) (holds : Holds b c classes code rescue) (landing : Landing code rescue)
    (s : State) (i p : ℕ) (S : At code c s i p) (within : p < length code) where
  abbrev t : Thread
  t = thread_at s i

  abbrev m : Method
  m = (program_of b).method t.class

  -- the class that the thread is in
  abbrev Found : ℕ → Type 0
  Found d = Holds b d classes code rescue

  held : Holds b t.class classes code rescue
  held = subst Found (sym S.class) holds

  abbrev Result : Stepped → Java → Bool → Type 0
  Result r J fails = Leaves code c i r (does classes code rescue p J fails (seen s i))

  -- the j-th instruction written for it
  written : (J : Java) → java_at code p ≡ J → (j : ℕ) → j < gives_of J
      → m.instruction (t.at.0 + j) ≡ decoded (get_or (rows_of classes code rescue p J) j (row 0 0 0))
  written J e j k =
      let q : j < gives_of (java_at code p) = rw e k in
      let f : t.at.0 + j ≡ count_to code p + j + 1 = omega (arith, S.address) in
      rw f (held.row_at (count_to code p + j) (address-in classes code rescue p j within S.begun q) ∙ ap decoded (rows-at classes code rescue p j (row 0 0 0) within S.begun q ∙ rw e))

  first : (J : Java) → java_at code p ≡ J → 0 < gives_of J → m.instruction t.at.0 ≡ decoded (get_or (rows_of classes code rescue p J) 0 (row 0 0 0))
  first J e k =
      let f : t.at.0 + 0 ≡ t.at.0 = omega arith in
      subst (λ (n : ℕ). m.instruction n ≡ decoded (get_or (rows_of classes code rescue p J) 0 (row 0 0 0))) f (written J e 0 k)

  next-at : (J : Java) → java_at code p ≡ J → t.at.0 + gives_of J ≡ address_of code (p + size_at code p)
  next-at J e = let f : gives_of (java_at code p) ≡ gives_of J = rw e in omega (arith, S.address, next_address classes code rescue p S.begun)

  -- one step, of the instruction y that is written for J
  one : (y : Instruction) (J : Java) (x : Bool) → m.instruction t.at.0 ≡ y → (step_of b s i x).answer ≤ 2
      → (Moved b s i t x y → Result (moves.move_of (program_of b) s i t m x y) J x) → Result (step_of b s i x) J x
  one y J x e h f =
      let k = step-moves b s i x t y refl e h in
      subst (λ (r : Stepped). Result r J x) (sym k.is) (f k)

  -- what a step keeps: the sizes, and the class that thread i, put back as w, is in
  record Kept (r : State) (w : Thread) : Type 0 where
    threads_8 : length r.threads ≡ 8
    counts_256 : length r.counts ≡ 256
    classes_32 : length r.classes ≡ 32
    stack_16 : length w.stack ≡ 16
    same_class : w.class ≡ t.class

  kept : (w : Thread) → length w.stack ≡ 16 → w.class ≡ t.class → Kept s w
  kept w k e =
      record { threads_8 = S.sized.threads_8; counts_256 = S.sized.counts_256; classes_32 = S.sized.classes_32; stack_16 = k; same_class = e }

  -- thread i put back
  finish : (r : State) (w : Thread) (f : Frame) (q : ℕ) → i < 8 → Kept r w → w.vars ≡ f.vars → top_first w.depth w.stack ≡ f.stack
      → ((o : ℕ) → o < 32 → count_of r.counts i o ≡ f.counts o) → r.objects ≡ f.objects → ((o : ℕ) → o < 32 → class_of r o ≡ f.kinds o)
      → w.at.0 ≡ address_of code q → begins code q ≡ true → Leaves code c i (record { answer = 0; state = with_thread r i w }) (goes q f)
  finish r w f q n h v k d o z g e =
      let x = put_is r i w (omega (arith, h.threads_8)) in
      record {
        went = refl;
        values = rw x (record { vars = v; stack = k; counts = d; objects = o; kinds = z });
        there =
            record {
              class = rw x (h.same_class ∙ S.class);
              address = rw x g;
              begun = e;
              sized =
                  record {
                    threads_8 = length-set r.threads i w ∙ h.threads_8;
                    counts_256 = h.counts_256;
                    classes_32 = h.classes_32;
                    stack_16 = rw x h.stack_16;
                  };
            };
      }

  -- right behind
  behind : begins code (p + size_at code p) ≡ true
  behind = begins-next code p S.begun

  inside : t.depth < 16 → t.depth < length t.stack
  inside d = omega (arith, S.sized.stack_16)

  -- a push of x, with the objects that r has
  pushes : (r : State) (x : Slot) (f : Frame) → i < 8 → Kept r t → t.depth < 16 → t.vars ≡ f.vars → x ∷ top_first t.depth t.stack ≡ f.stack
      → ((o : ℕ) → o < 32 → count_of r.counts i o ≡ f.counts o) → r.objects ≡ f.objects → ((o : ℕ) → o < 32 → class_of r o ≡ f.kinds o)
      → t.at.0 + 1 ≡ address_of code (p + size_at code p) → Leaves code c i (moves.went_on r i t.at (pushed t x)) (goes (p + size_at code p) f)
  pushes r x f n h d v k g o z a =
      let l : length (set t.stack t.depth x) ≡ 16 = length-set t.stack t.depth x ∙ S.sized.stack_16 in
      rw (pushed-is t x d)
      (finish r (with_at (with_stack t (set t.stack t.depth x) (t.depth + 1)) (t.at.0 + 1)) f (p + size_at code p) n
      (record { threads_8 = h.threads_8; counts_256 = h.counts_256; classes_32 = h.classes_32; stack_16 = l; same_class = refl }) v
      (push-top t.depth t.stack x (inside d) ∙ k) g o z a behind)

  as-was : Kept s t
  as-was = kept t S.sized.stack_16 refl

  -- a stack of which the top is gone
  shorter : (l : List Slot) → length l ≡ 16 → (n d : ℕ) → length (fill_from d n zero_slot l) ≡ 16
  shorter l e n d = fill-length d zero_slot l n ∙ e

  -- what is pushed where there is room
  roomy : {limit : ℕ} → limit ≤ 16 → push_fault t limit ≡ 0 → t.depth < 16
  roomy {limit} h e = let k = ltb-true t.depth limit (passed (room limit t) 11 0 e).0 in omega arith

  of-push0 : (x : Bool) → java_at code p ≡ Iconst0 → (step_of b s i x).answer ≤ 2 → Result (step_of b s i x) Iconst0 x
  unfolding rows_of line_of find table
  of-push0 x e w =
      one instruction.Push0 Iconst0 x (first Iconst0 e (omega arith)) w
      (λ k. pushes s zero_slot _ k.number as-was (roomy k.limit k.no_fault) refl refl (λ o n. refl) refl (λ o n. refl) (next-at Iconst0 e))

  of-load : (v : ℕ) (x : Bool) → java_at code p ≡ Load v → (step_of b s i x).answer ≤ 2 → Result (step_of b s i x) (Load v) x
  unfolding rows_of line_of find table
  of-load v x e w =
      one (instruction.Load (var v)) (Load v) x (first (Load v) e (omega arith)) w
      (λ k. pushes s (var_of t v) _ k.number as-was (roomy k.limit k.no_fault) refl refl (λ o n. refl) refl (λ o n. refl) (next-at (Load v) e))

  -- the top, where one is asked for
  topped-by : (rest : ℕ) → test (has 1 t) 11 rest ≡ 0 → 1 ≤ t.depth
  topped-by rest e = leb-true 1 t.depth (passed (has 1 t) 10 rest e).0

  of-store : (v : ℕ) (x : Bool) → java_at code p ≡ Store v → (step_of b s i x).answer ≤ 2 → Result (step_of b s i x) (Store v) x
  unfolding rows_of line_of find table popped stored
  of-store v x e w =
      one (instruction.Store (var v)) (Store v) x (first (Store v) e (omega arith)) w
      (λ k. let d = topped-by 0 k.no_fault in
      finish s (with_at (popped 1 (stored t v (threads.top_of t))) (t.at.0 + 1)) _ (p + size_at code p) k.number (kept _ (shorter t.stack S.sized.stack_16 1 (t.depth - 1)) refl)
      (ap (set t.vars v) (top-of t.depth t.stack d)) (rest-of t.depth t.stack d) (λ o n. refl) refl (λ o n. refl) (next-at (Store v) e) behind)

  of-pop : (x : Bool) → java_at code p ≡ Pop → (step_of b s i x).answer ≤ 2 → Result (step_of b s i x) Pop x
  unfolding rows_of line_of find table popped
  of-pop x e w =
      one instruction.Pop Pop x (first Pop e (omega arith)) w
      (λ k. let d = topped-by 0 k.no_fault in
      finish s (with_at (popped 1 t) (t.at.0 + 1)) _ (p + size_at code p) k.number (kept _ (shorter t.stack S.sized.stack_16 1 (t.depth - 1)) refl)
      refl (rest-of t.depth t.stack d) (λ o n. refl) refl (λ o n. refl) (next-at Pop e) behind)

  of-if : (d : ℕ) (x : Bool) → java_at code p ≡ Ifne d → (step_of b s i x).answer ≤ 2 → Result (step_of b s i x) (Ifne d) x
  unfolding rows_of line_of find table popped
  of-if d x e w =
      one (instruction.If (addr (address_of code (target_of code p d)))) (Ifne d) x (first (Ifne d) e (omega arith)) w
      (λ k. let n = topped-by _ k.no_fault in
      rw (top-of t.depth t.stack n) (either k.number n (jumps (top_of (top_first t.depth t.stack)))))
    where
      either : i < 8 → 1 ≤ t.depth → (j : Bool)
          → Leaves code c i (cond j (moves.went_to s i (popped 1 t) (address_of code (target_of code p d))) (moves.went_on s i t.at (popped 1 t)))
          (goes (cond j (target_of code p d) (p + size_at code p)) (pop (seen s i)))
      either k n true =
          finish s (with_at (popped 1 t) (address_of code (target_of code p d))) _ (target_of code p d) k (kept _ (shorter t.stack S.sized.stack_16 1 (t.depth - 1)) refl)
          refl (rest-of t.depth t.stack n) (λ o q. refl) refl (λ o q. refl) refl (landing.branch p d within S.begun e)
      either k n false =
          finish s (with_at (popped 1 t) (t.at.0 + 1)) _ (p + size_at code p) k (kept _ (shorter t.stack S.sized.stack_16 1 (t.depth - 1)) refl)
          refl (rest-of t.depth t.stack n) (λ o q. refl) refl (λ o q. refl) (next-at (Ifne d) e) behind

  -- ---- what is thrown finds the handler, or none
  throw-leaves : (offset : ℕ) (x : Slot) → i < 8
      → Leaves code c i (moves.throw_move s i t m.vars (addr (handler_for code rescue offset)) x) (throws rescue offset x (seen s i))
  unfolding handler_by throws
  throw-leaves offset x n = go (ltb (covered_by rescue offset) (entries rescue)) refl
    where
      go : (j : Bool) → ltb (covered_by rescue offset) (entries rescue) ≡ j → Leaves code c i (moves.throw_move s i t m.vars (addr (cond j (address_of code (handler_of rescue (covered_by rescue offset))) 0)) x) (cond j (goes (handler_of rescue (covered_by rescue offset)) (alone x (seen s i))) uncaught)
      go true h =
          rw (ne_eqb (count_to code (handler_of rescue (covered_by rescue offset)) + 1) 0 (λ e. omega arith), caught-is t x)
          (finish s (with_at (with_stack t (set (fill_from 0 t.depth zero_slot t.stack) 0 x) 1) (address_of code (handler_of rescue (covered_by rescue offset)))) (alone x (seen s i)) (handler_of rescue (covered_by rescue offset)) n
          (kept _ (length-set (fill_from 0 t.depth zero_slot t.stack) 0 x ∙ shorter t.stack S.sized.stack_16 t.depth 0) refl) refl
          (caught-alone t.depth t.stack x S.sized.stack_16) (λ o q. refl) refl (λ o q. refl) refl
          (landing.handler (covered_by rescue offset) (ltb-true (covered_by rescue offset) (entries rescue) h)))
      go false h = refl

  of-throw : (x : Bool) → java_at code p ≡ Athrow → (step_of b s i x).answer ≤ 2 → Result (step_of b s i x) Athrow x
  unfolding rows_of line_of find table
  of-throw x e w =
      one (instruction.Throw (addr (handler_for code rescue p))) Athrow x (first Athrow e (omega arith)) w
      (λ k. let n = topped-by _ k.no_fault in
      subst (λ (y : Slot). Leaves code c i (moves.throw_move s i t m.vars (addr (handler_for code rescue p)) (threads.top_of t)) (throws rescue p y (seen s i)))
      (top-of t.depth t.stack n) (throw-leaves p (threads.top_of t) k.number))

  of-return : (x : Bool) → java_at code p ≡ Return → (step_of b s i x).answer ≤ 2 → Result (step_of b s i x) Return x
  unfolding rows_of line_of find table
  of-return x e w = one instruction.Return Return x (first Return e (omega arith)) w (λ k. refl)

  -- ---- the counts with one of them changed
  count-put : i < 8 → (o n q : ℕ) → q < 32 → count_of (set s.counts (i * 32 + o) n) i q ≡ changed (count_of s.counts i) o n q
  count-put k o n q h = go (ℕ_discrete q o)
    where
      go : Dec (q ≡ o) → count_of (set s.counts (i * 32 + o) n) i q ≡ changed (count_of s.counts i) o n q
      go (yes d) =
          let f : i * 32 + o < length s.counts = omega (arith, S.sized.counts_256) in
          rw (eq-eqb q o d, d) (get_or-set_same s.counts (i * 32 + o) n 0 f)
      go (no d) = rw (ne_eqb q o d) (get_or-set_other s.counts (i * 32 + o) (i * 32 + q) n 0 (λ x. d (omega arith)))

  -- .. and the sizes
  counted-kept : (o n a : ℕ) → Kept (with_count s i o n) (with_at t a)
  counted-kept o n a =
      record {
        threads_8 = S.sized.threads_8;
        counts_256 = length-set s.counts (i * 32 + o) n ∙ S.sized.counts_256;
        classes_32 = S.sized.classes_32;
        stack_16 = S.sized.stack_16;
        same_class = refl;
      }

  of-exit : (v : ℕ) (x : Bool) → java_at code p ≡ Exit v → (step_of b s i x).answer ≤ 2 → Result (step_of b s i x) (Exit v) x
  unfolding rows_of line_of find table
  of-exit v x e w =
      one (instruction.Exit (var v)) (Exit v) x (first (Exit v) e (omega arith)) w
      (λ k.
      finish (with_count s i (object_of (var_of t v)) (count_of s.counts i (object_of (var_of t v)) - 1)) (with_at t (t.at.0 + 1)) _ (p + size_at code p) k.number
      (counted-kept _ _ _) refl refl (count-put k.number _ _) refl (λ o q. refl) (next-at (Exit v) e) behind)

  of-enter : (v : ℕ) (x : Bool) → java_at code p ≡ Enter v → (step_of b s i x).answer ≤ 2 → Result (step_of b s i x) (Enter v) x
  unfolding rows_of line_of find table
  of-enter v x e w =
      one (instruction.Enter (var v) (addr (handler_for code rescue (p + size_at code p - 1)))) (Enter v) x (first (Enter v) e (omega arith)) w
      (λ k. go k.number (is_null (var_of t v)))
    where
      -- what is on the stack is gone
      thrown : (offset : ℕ) → i < 8
          → Leaves code c i (moves.fail_move s i t m.vars (addr (handler_for code rescue offset))) (throws rescue offset (ref_slot 0) (load v (seen s i)))
      thrown offset n = rw (same-throw rescue offset (ref_slot 0) (var_of t v) (seen s i)) (throw-leaves offset (ref_slot 0) n)

      go : i < 8 → (j : Bool)
          → Leaves code c i (cond j (moves.fail_move s i t m.vars (addr (handler_for code rescue (p + size_at code p - 1)))) (moves.counted s i t (object_of (var_of t v)) (count_of s.counts i (object_of (var_of t v)) + 1)))
          (cond j (throws rescue (p + size_at code p - 1) (ref_slot 0) (load v (seen s i))) (goes (p + size_at code p) (enter (load v (seen s i)))))
      go n true = thrown (p + size_at code p - 1) n
      go n false =
          finish (with_count s i (object_of (var_of t v)) (count_of s.counts i (object_of (var_of t v)) + 1)) (with_at t (t.at.0 + 1)) _ (p + size_at code p) n (counted-kept _ _ _) refl refl (count-put n _ _) refl (λ o q. refl) (next-at (Enter v) e) behind

  -- the classes with one of them changed
  class-put : s.objects < 32 → (d q : ℕ) → get_or (set s.classes s.objects d) q 0 ≡ changed (class_of s) s.objects d q
  class-put h d q = go (ℕ_discrete q s.objects)
    where
      go : Dec (q ≡ s.objects) → get_or (set s.classes s.objects d) q 0 ≡ changed (class_of s) s.objects d q
      go (yes e) =
          rw (eq-eqb q s.objects e, e) (get_or-set_same s.classes s.objects d 0 (omega (arith, S.sized.classes_32)))
      go (no e) = rw (ne_eqb q s.objects e) (get_or-set_other s.classes s.objects q d 0 (λ x. e (omega arith)))

  object-is : s.objects < 32 → (d : ℕ) (fields : List Slot)
      → Kept (with_object s d fields) t × ((with_object s d fields).counts ≡ s.counts) × ((with_object s d fields).objects ≡ s.objects + 1)
      × ((q : ℕ) → class_of (with_object s d fields) q ≡ changed (class_of s) s.objects d q)
  unfolding with_object
  object-is h d fields =
      rw (lt-ltb s.objects 32 h) (
        record {
          threads_8 = S.sized.threads_8;
          counts_256 = S.sized.counts_256;
          classes_32 = length-set s.classes s.objects d ∙ S.sized.classes_32;
          stack_16 = S.sized.stack_16;
          same_class = refl;
        },
        refl,
        refl,
        class-put h d,
      )

  of-new : (d : ℕ) (x : Bool) → java_at code p ≡ New d → (step_of b s i x).answer ≤ 2 → Result (step_of b s i x) (New d) x
  unfolding rows_of line_of find table
  of-new d x e w =
      one (instruction.New (class_number classes d) (addr (handler_for code rescue p))) (New d) x (first (New d) e (omega arith)) w
      (λ k. go k.number k.limit (new_fails s x) refl k.no_fault)
    where
      go : i < 8 → m.limit ≤ 16 → (j : Bool) → new_fails s x ≡ j → cond j (throw_fault s.counts i m.limit (addr (handler_for code rescue p))) (push_fault t m.limit) ≡ 0
          → Leaves code c i (cond j (moves.fail_move s i t m.vars (addr (handler_for code rescue p))) (moves.make_move (program_of b) s i t (class_number classes d)))
          (cond j (throws rescue p (ref_slot 0) (seen s i)) (goes (p + size_at code p) (create (class_number classes d) (seen s i))))
      go n h true f g = throw-leaves p (ref_slot 0) n
      go n h false f g =
          let y = object-is (leb-false 32 s.objects (or-false-snd x (leb 32 s.objects) f)) (class_number classes d) (moves.first_fields ((program_of b).method (class_number classes d))) in
          pushes (with_object s (class_number classes d) (moves.first_fields ((program_of b).method (class_number classes d)))) (ref_slot s.objects) _ n y.0 (roomy h g) refl refl
          (λ o q. ap (λ (z : List ℕ). count_of z i o) y.1) y.2 (λ o q. y.3 o) (next-at (New d) e)

  -- ---- nothing is written
  stays : (q : ℕ) → t.at.0 ≡ address_of code q → begins code q ≡ true → Leaves code c i (record { answer = 0; state = s }) (goes q (seen s i))
  stays q a e =
      record {
        went = refl;
        values = record { vars = refl; stack = refl; counts = λ o n. refl; objects = refl; kinds = λ o n. refl };
        there = record { class = S.class; address = a; begun = e; sized = S.sized };
      }

  of_none : (J : Java) → java_at code p ≡ J → gives_of J ≡ 0 → Leaves code c i (record { answer = 0; state = s }) (goes (p + size_at code p) (seen s i))
  of_none J e g = stays (p + size_at code p) (omega (arith, next-at J e)) behind

  -- ---- iinc: a load, an inc and a store
  put-put : (w x : Thread) → with_thread (with_thread s i w) i x ≡ with_thread s i x
  put-put w x = rw (set-set s.threads i w x)

  -- the thread after the load, and after the inc
  abbrev loaded : ℕ → Thread
  loaded v = with_at (with_stack t (set t.stack t.depth (var_of t v)) (t.depth + 1)) (t.at.0 + 1)

  abbrev raised : ℕ → Thread
  raised v =
      with_at (with_stack (loaded v) (set (loaded v).stack (t.depth + 1 - 1) (inc_slot (threads.top_of (loaded v)))) (t.depth + 1)) (t.at.0 + 1 + 1)

  loaded-top : (v : ℕ) → t.depth < 16 → threads.top_of (loaded v) ≡ var_of t v
  loaded-top v d =
      let e : t.depth + 1 - 1 - 0 ≡ t.depth = omega arith in
      rw e (get_or-set_same t.stack t.depth (var_of t v) zero_slot (inside d))

  top_set : (n : List Slot) (d : ℕ) (y : Slot) → d < length n → get_or (set n (d + 1 - 1) y) (d + 1 - 1 - 0) zero_slot ≡ y
  top_set n d y h =
      let e : d + 1 - 1 - 0 ≡ d = omega arith in
      let f : d + 1 - 1 ≡ d = omega arith in
      rw (e, f) (get_or-set_same n d y zero_slot h)

  raised-top : (v : ℕ) → t.depth < 16 → threads.top_of (raised v) ≡ inc_slot (var_of t v)
  raised-top v d =
      top_set (loaded v).stack t.depth (inc_slot (threads.top_of (loaded v))) (rw (length-set t.stack t.depth (var_of t v)) (inside d))
      ∙ ap inc_slot (loaded-top v d)

  raised-rest : (v : ℕ) → top_first (t.depth + 1 - 1) (fill_from (t.depth + 1 - 1) 1 zero_slot (raised v).stack) ≡ top_first t.depth t.stack
  unfolding fill_from
  raised-rest v =
      let f : t.depth + 1 - 1 ≡ t.depth = omega arith in
      rw f
      (above t.depth (t.depth + 0) _ zero_slot (omega arith)
      ∙ above t.depth t.depth _ _ (omega arith)
      ∙ above t.depth t.depth t.stack (var_of t v) (omega arith))

  stored-size : (v : ℕ) → length (fill_from (t.depth + 1 - 1) 1 zero_slot (raised v).stack) ≡ 16
  stored-size v =
      shorter (raised v).stack (length-set (loaded v).stack (t.depth + 1 - 1) _ ∙ length-set t.stack t.depth (var_of t v) ∙ S.sized.stack_16) 1 (t.depth + 1 - 1)

  -- the state that each step leaves
  abbrev went : State → Stepped
  went u = record { answer = 0; state = u }

  to-loaded : (v : ℕ) (x : Bool) → java_at code p ≡ Iinc v → (step_of b s i x).answer ≤ 2
      → (i < 8) × (t.depth < 16) × (step_of b s i x ≡ went (with_thread s i (loaded v)))
  unfolding rows_of line_of find table
  to-loaded v x e w =
      let k = step-moves b s i x t (instruction.Load (var v)) refl (first (Iinc v) e (omega arith)) w in
      let d = roomy k.limit k.no_fault in
      (k.number, d, k.is ∙ ap (λ (y : Thread). went (with_thread s i (with_at y (t.at.0 + 1)))) (pushed-is t (var_of t v) d))

  to-raised : (v : ℕ) (x : Bool) → java_at code p ≡ Iinc v → i < 8 → (step_of b (with_thread s i (loaded v)) i x).answer ≤ 2
      → step_of b (with_thread s i (loaded v)) i x ≡ went (with_thread s i (raised v))
  unfolding rows_of line_of find table topped
  to-raised v x e n w =
      let k = step-moves b (with_thread s i (loaded v)) i x (loaded v) instruction.Inc (put_is s i (loaded v) (omega (arith, S.sized.threads_8))) (written (Iinc v) e 1 (omega arith)) w in
      k.is ∙ ap went (put-put (loaded v) (raised v))

  to-stored : (v : ℕ) (x : Bool) → java_at code p ≡ Iinc v → i < 8 → (step_of b (with_thread s i (raised v)) i x).answer ≤ 2
      → step_of b (with_thread s i (raised v)) i x ≡ went (with_thread s i (with_at (popped 1 (stored (raised v) v (threads.top_of (raised v)))) (t.at.0 + 1 + 1 + 1)))
  unfolding rows_of line_of find table
  to-stored v x e n w =
      let f : t.at.0 + 1 + 1 ≡ t.at.0 + 2 = omega arith in
      let k = step-moves b (with_thread s i (raised v)) i x (raised v) (instruction.Store (var v)) (put_is s i (raised v) (omega (arith, S.sized.threads_8)))
      (ap m.instruction f ∙ written (Iinc v) e 2 (omega arith)) w in
      k.is ∙ ap went (put-put (raised v) _)

  of-iinc : (v : ℕ) (x y z : Bool) → java_at code p ≡ Iinc v → (steps b i (x ∷ y ∷ z ∷ []) s).answer ≤ 2 → Result (steps b i (x ∷ y ∷ z ∷ []) s) (Iinc v) x
  unfolding popped stored
  of-iinc v x y z e w =
      let k₁ = to-loaded v x e (steps_first b i x (y ∷ z ∷ []) s w) in
      let e₁ = steps_on b i x (y ∷ z ∷ []) s _ k₁.2 in
      let w₁ = rw e₁ at w in
      let k₂ = to-raised v y e k₁.0 (steps_first b i y (z ∷ []) _ w₁) in
      let e₂ = steps_on b i y (z ∷ []) _ _ k₂ in
      let w₂ = rw e₂ at w₁ in
      let k₃ = to-stored v z e k₁.0 (steps_first b i z [] _ w₂) in
      rw (e₁, e₂, steps-one b i z _, k₃)
      (finish s _ _ (p + size_at code p) k₁.0 (kept _ (stored-size v) refl) (ap (set t.vars v) (raised-top v k₁.1)) (raised-rest v) (λ o n. refl) refl (λ o n. refl)
      (omega (arith, next-at (Iinc v) e)) behind)

  -- where the stack has room and the variable holds an integer, the three steps do all answer 0
  iinc-through : (v : ℕ) (x y z : Bool) → java_at code p ≡ Iinc v → length s.held ≡ 8 → readable b ≡ true → state_ok (program_of b) s ≡ true → i < 8 → t.live ≡ true
      → t.depth < m.limit → m.limit ≤ 16 → is_int (var_of t v) ≡ true → (steps b i (x ∷ y ∷ z ∷ []) s).answer ≡ 0
  unfolding rows_of line_of find table refuse topped
  iinc-through v x y z e held r o n live h q int =
      let d : t.depth < 16 = omega arith in
      let e₁ : step_of b s i x ≡ went (with_thread s i (loaded v))
      = step-goes b s i x t (instruction.Load (var v)) r o n refl live (first (Iinc v) e (omega arith)) (rw (lt-ltb t.depth m.limit h)) refl
      ∙ ap (λ (w : Thread). went (with_thread s i (with_at w (t.at.0 + 1)))) (pushed-is t (var_of t v) d) in
      let b₁ = step-belongs b s i x (record { counts_256 = S.sized.counts_256; held_8 = held }) o in
      let o₁ : state_ok (program_of b) (with_thread s i (loaded v)) ≡ true = sym (ap (λ (w : Stepped). state_ok (program_of b) w.state) e₁) ∙ b₁.0 in
      let k₁ = put_is s i (loaded v) (omega (arith, S.sized.threads_8)) in
      let e₂ : step_of b (with_thread s i (loaded v)) i y ≡ went (with_thread s i (raised v))
      = step-goes b (with_thread s i (loaded v)) i y (loaded v) instruction.Inc r o₁ n k₁ live (written (Iinc v) e 1 (omega arith))
      (rw (le-leb 1 (t.depth + 1) (omega arith), loaded-top v d, int)) refl ∙ ap went (put-put (loaded v) (raised v)) in
      let b₂ = step-belongs b (with_thread s i (loaded v)) i y (record { counts_256 = S.sized.counts_256; held_8 = held }) o₁ in
      let o₂ : state_ok (program_of b) (with_thread s i (raised v)) ≡ true = sym (ap (λ (w : Stepped). state_ok (program_of b) w.state) e₂) ∙ b₂.0 in
      let k₂ = put_is s i (raised v) (omega (arith, S.sized.threads_8)) in
      let f : t.at.0 + 1 + 1 ≡ t.at.0 + 2 = omega arith in
      let e₃ = step-goes b (with_thread s i (raised v)) i z (raised v) (instruction.Store (var v)) r o₂ n k₂ live (ap m.instruction f ∙ written (Iinc v) e 2 (omega arith))
      (rw (le-leb 1 (t.depth + 1) (omega arith))) refl in
      rw (steps_on b i x (y ∷ z ∷ []) s _ e₁, steps_on b i y (z ∷ []) _ _ e₂, steps-one b i z _, e₃)

  -- ---- every instruction
  abbrev Case : Java → List Bool → Type 0
  Case J fails = java_at code p ≡ J → (steps b i fails s).answer ≤ 2 → Result (steps b i fails s) J (told fails)

  none : (J : Java) → (java_at code p ≡ J → Result (record { answer = 0; state = s }) J false) → (fails : List Bool) → length fails ≡ 0 → Case J fails
  none J f [] g e w = rw (steps-none b i s) (f e)
  none J f (x ∷ fails) g e w = absurd (omega arith)

  single : (J : Java) → ((x : Bool) → java_at code p ≡ J → (step_of b s i x).answer ≤ 2 → Result (step_of b s i x) J x) → (fails : List Bool) → length fails ≡ 1 → Case J fails
  single J f [] g e w = absurd (omega arith)
  single J f (x ∷ []) g e w = rw (steps-one b i x s) (f x e (rw (steps-one b i x s) at w))
  single J f (x ∷ y ∷ fails) g e w = absurd (omega arith)

  triple : (v : ℕ) (fails : List Bool) → length fails ≡ 3 → Case (Iinc v) fails
  triple v [] g e w = absurd (omega arith)
  triple v (x ∷ []) g e w = absurd (omega arith)
  triple v (x ∷ y ∷ []) g e w = absurd (omega arith)
  triple v (x ∷ y ∷ z ∷ []) g e w = of-iinc v x y z e w
  triple v (x ∷ y ∷ z ∷ u ∷ fails) g e w = absurd (omega arith)

  every : (J : Java) (fails : List Bool) → length fails ≡ gives_of J → Case J fails
  every Nop = none Nop (λ e. of_none Nop e refl)
  every Pop = single Pop of-pop
  every Iconst0 = single Iconst0 of-push0
  every (Load v) = single (Load v) (of-load v)
  every (Store v) = single (Store v) (of-store v)
  every (Ifne d) = single (Ifne d) (of-if d)
  every (Enter v) = single (Enter v) (of-enter v)
  every (Exit v) = single (Exit v) (of-exit v)
  every (New d) = single (New d) (of-new d)
  every Athrow = single Athrow of-throw
  every Return = single Return of-return
  every (Iinc v) = triple v
  every Other = none Other (λ e. stays p S.address S.begun)

-- a method that was taken
landing-of : (a classes : List ℕ) (room : ℕ) → (taken_of a classes room).number ≡ 0 → Landing (code_of a) (table_of a)
unfolding lands
landing-of a classes room e =
    let h = succeeds a classes room e in
    record {
      branch = λ p d l b f. begun (target_of (code_of a) p d) (rw f at (h.branches p l ((walks (code_of a) p).1 b)));
      handler = λ j l. begun (handler_of (table_of a) j) (h.handlers j l);
    }
  where
    begun : (q : ℕ) → lands (code_of a) q ≡ true → begins (code_of a) q ≡ true
    begun q f = search (f, and-fst, and-snd)

-- THEOREM
pub faithful : Faithful
faithful a classes out b c h s i p fails S l g w =
    every b classes (code_of a) (table_of a) c (carried b c a classes out h) (landing-of a classes (length out) h.success) s i p S l (java_at (code_of a) p) fails g refl w

-- THEOREM
pub iinc-goes : IincGoes
iinc-goes a classes out b c h s i p v x y z S l words e r o n live d int =
    let k : (thread_at s i).depth < ((program_of b).method (thread_at s i).class).limit = rw S.class d in
    iinc-through b classes (code_of a) (table_of a) c (carried b c a classes out h) (landing-of a classes (length out) h.success) s i p S l v x y z e words r o n live k ((formed b r).limit_16 _ ((belongs-elim (program_of b) s o).live_placed i n live).class_known) int
