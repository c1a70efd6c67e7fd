-- THEOREM: along any list of steps from a fresh machine every place out of use is integer 0: a fresh machine has all else 0, a place that falls out of use becomes integer 0, and a step writes no other place out of use.
use mathlib.Core.Path.{◌≡◌, refl}
use mathlib.Core.Bool.{Bool, true, false, cond}
use mathlib.Core.List.{List, [], ◌∷◌}
use Prim.Native.Nat.{ℕ, ◌+◌, ◌*◌, ◌≤◌, ◌<◌}
use native.Mathlib.Omega.{arith}
use lib.ListN.{get_or, set, length, length-set, length-replicate, get_or-replicate}
use lib.Seq.{get_or-set_same, get_or-set_other}
use lib.Dec.{ltb, eqb}
use borrow.Author.Tests.{ltb-true, leb-true, not-true, le-ltb}
use Rattle.ground.proofs.Bools.{and-snd}
use Rattle.ground.proofs.Bounded.{first-is}
use Rattle.ground.proofs.Chain.{tested}
use Rattle.instructions.specs.declared.Addr.{Addr}
use Rattle.instructions.specs.declared.Var.{Var}
use Rattle.instructions.specs.declared.Instruction.{Instruction}
use Rattle.instructions.specs.declared.Instruction.TheVariants.{Inc, Pop, Push0, Load, Store, If, Enter, Exit, New, Start, Throw, Return, Get, Put, Nothing}
use Rattle.instructions.proofs.Table.{InstructionFits}
use Rattle.bundle.specs.Program.{Method, Program, program_of}
use Rattle.structure.proofs.Structured.{WellFormed}
use Rattle.values.specs.declared.Slot.{Slot}
use Rattle.values.specs.Values.{zero_slot, ref_slot, is_null, inc_slot, jumps}
use Rattle.threads.specs.declared.Thread.{Thread}
use Rattle.threads.specs.Threads.{idle, from_top, top_of, var_of, pushed, popped, started}
use Rattle.state.specs.declared.State.{State}
use Rattle.state.specs.State.{thread_at, class_of, with_thread, with_count, field_of, with_field, with_object, empty_state, not_live, lowest_free}
use Rattle.belongs.proofs.Belongs.{Placed, Belongs}
use Rattle.turns.specs.Stepped.{Stepped}
use Rattle.turns.specs.Faults.{lock_of, int_fault, new_fails, is_field_value, get_fault, put_fault, fault_of}
use Rattle.turns.specs.Waits.{start_wait, wait_of}
use Rattle.turns.specs.Moves.{went_to, went_on, inc_move, store_move, counted, end_move, throw_move, enter_move, first_fields, make_move, get_move, put_move, start_move, move_of}
use Rattle.machine.specs.Machine.{main_thread, step_of, fresh_of}
use Rattle.machine.specs.Runs.{Step, after, run, reached}
use Rattle.machine.proofs.Refusals.{either, refuses, method_here, instruction_here, Moving, step_by}
use Rattle.machine.proofs.Writes.{write-or, write-in, fields_in}
use Rattle.machine.proofs.Moved.{entry-refers, owner}
use Rattle.machine.proofs.Changes.{grown, first-at}
use Rattle.machine.proofs.CleanPlaces.{zero-new, CleanThread, CleanLive, clean-live, live_clean, ended-clean, started-clean, topped-clean, pushed-clean, popped-clean, stored-clean}

-- field place f of object o is out of use: there is no such object, or its class has no such field
abbrev pub Unused : Program → State → ℕ → ℕ → Type 0
Unused P s o f = o < s.objects → (P.method (class_of s o)).fields ≤ f

-- every place out of use is integer 0, at each of the eight thread numbers and of the four fields of each object (the classes are 32, as their array has it)
pub record Clean (P : Program) (s : State) : Type 0 where
  pub clean_at : (i : ℕ) → i < 8 → CleanThread P (thread_at s i)
  pub clean_field : (o f : ℕ) → f < 4 → Unused P s o f → field_of s.fields o f ≡ zero_slot
  pub classes_32 : length s.classes ≡ 32

thread-clean : (P : Program) (s : State) → Clean P s → (i : ℕ) (u : Thread) → CleanThread P u → Clean P (with_thread s i u)
thread-clean P s h i u c =
    record { clean_at = λ j l. write-or (CleanThread P) s.threads i j u idle (h.clean_at j l) (λ q. c); clean_field = h.clean_field; classes_32 = h.classes_32 }

-- a field that the object's class has is in use
field-clean : (P : Program) (s : State) → Clean P s → (o f : ℕ) (x : Slot) → f < 4 → o < s.objects → f < (P.method (class_of s o)).fields → Clean P (with_field s o f x)
field-clean P s h o f x b l k =
    record {
      clean_at = h.clean_at;
      clean_field = λ p g e u. write-in (λ (y : Slot). y ≡ zero_slot) s.fields (o * 4 + f) (p * 4 + g) x zero_slot refl
          (λ q. let r : p ≡ o = omega arith in absurd (omega (arith, rw r at (u (omega arith))))) (λ q. h.clean_field p g e u);
      classes_32 = h.classes_32;
    }

-- a new object's places that are out of use are integer 0
object-clean : (P : Program) (s : State) → Clean P s → (c : ℕ) → Clean P (with_object s c (first_fields (P.method c)))
unfolding with_object
object-clean P s h c = go (ltb s.objects 32) refl
  where
    new : (o f : ℕ) → f < 4 → s.objects < 32 → o ≡ s.objects → Unused P (grown s c (first_fields (P.method c))) o f → get_or (first_fields (P.method c)) f zero_slot ≡ zero_slot
    new o f b l q u =
        let e : get_or (set s.classes s.objects c) s.objects 0 ≡ c = get_or-set_same s.classes s.objects c 0 (omega (arith, h.classes_32)) in
        rw (first-at (P.method c) f b, le-ltb f (P.method c).fields (rw (q, e) at (u (omega arith))))

    go : (t : Bool) → ltb s.objects 32 ≡ t → Clean P (cond t (grown s c (first_fields (P.method c))) s)
    go true a =
        record {
          clean_at = h.clean_at;
          clean_field = λ o f b u. fields_in (λ (y : Slot). y ≡ zero_slot) s.fields (first_fields (P.method c)) s.objects o f b refl
              (λ q. new o f b (ltb-true _ _ a) q u)
              (λ q. h.clean_field o f b (λ l. rw (get_or-set_other s.classes s.objects o c 0 q) at (u (omega arith))));
          classes_32 = simp length-set h.classes_32;
        }
    go false a = h

-- start takes the number of a thread that isn't live
pub free-idle : (s : State) → lowest_free s < 8 → (thread_at s (lowest_free s)).live ≡ false
unfolding lowest_free
free-idle s l = not-true _ (first-is 8 (not_live s) l)

-- ---- a step
-- so after a step, whatever it answers
record Cleans (P : Program) (r : Stepped) : Type 0 where
  cleans : Clean P r.state

-- a move of thread i, which is t and live
module _ (P : Program) (s : State) (h : Clean P s) (i : ℕ) (t : Thread) (p : CleanLive P t.class t) where
  abbrev method : Method
  method = P.method t.class

  goes : (s' : State) → Clean P s' → (u : Thread) → CleanLive P t.class u → (a : ℕ) → Cleans P (went_to s' i u a)
  goes s' h' u q a = record { cleans = thread-clean P s' h' i _ (live_clean P t.class u a q) }

  inc-clean : int_fault t ≡ 0 → Cleans P (inc_move s i t)
  inc-clean f = goes s h _ (topped-clean P t.class t p (inc_slot (top_of t)) (leb-true _ _ (tested _ _ _ f).0)) _

  pop-clean : (a : ℕ) → Cleans P (went_to s i (popped 1 t) a)
  pop-clean a = goes s h _ (popped-clean P t.class t p 1) a

  push-clean : (x : Slot) → Cleans P (went_on s i t.at (pushed t x))
  push-clean x = goes s h _ (pushed-clean P t.class t p x) _

  store-clean : (v : Var) → v.0 < method.vars → Cleans P (store_move s i t v)
  store-clean v b = goes s h _ (popped-clean P t.class _ (stored-clean P t.class t p v.0 (top_of t) b) 1) _

  -- a count is no place
  counted-clean : (o n : ℕ) → Cleans P (counted s i t o n)
  counted-clean o n =
      goes (with_count s i o n) (record { clean_at = h.clean_at; clean_field = h.clean_field; classes_32 = h.classes_32 }) t p (t.at.0 + 1)

  end_clean : (n : ℕ) → Cleans P (end_move s i t method.vars n)
  end_clean n = record { cleans = thread-clean P s h i _ (ended-clean P t.class t p) }

  throw-clean : (a : Addr) (x : Slot) → Cleans P (throw_move s i t method.vars a x)
  throw-clean a x =
      either (Cleans P) (eqb a.0 0) _ _ (λ _. end_clean 2)
      (λ _. goes s h _ (pushed-clean P t.class (popped t.depth t) (popped-clean P t.class t p t.depth) x) _)

  make-clean : (k : ℕ) → Cleans P (make_move P s i t k)
  make-clean k = goes _ (object-clean P s h k) _ (pushed-clean P t.class t p (ref_slot s.objects)) _

  enter-clean : (v : Var) (a : Addr) → Cleans P (enter_move s i t method.vars v a)
  enter-clean v a = either (Cleans P) (is_null (var_of t v.0)) _ _ (λ _. throw-clean a (ref_slot 0)) (λ _. counted-clean (lock_of t v) _)

  get-clean : (c f : ℕ) (a : Addr) → get_fault s i t c method.limit a ≡ 0 → Cleans P (get_move s i t method.vars f a)
  get-clean c f a z =
      either (Cleans P) (is_null (top_of t)) _ _ (λ _. throw-clean a (ref_slot 0))
      (λ _. goes s h _ (topped-clean P t.class t p _ (leb-true _ _ (tested _ _ _ z).0)) _)

  put-clean : (c f d : ℕ) (a : Addr) → f < 4 → f < (P.method c).fields → Belongs P s → Placed P s.objects t
      → put_fault s i t c d method.limit a ≡ 0 → Cleans P (put_move s i t method.vars f a)
  put-clean c f d a b k g m z =
      let e = tested _ _ _ z in
      let y = (tested _ _ _ e.1).0 in
      let two = leb-true 2 t.depth e.0 in
      either (Cleans P) (is_null (from_top t 1)) _ _ (λ _. throw-clean a (ref_slot 0))
      (λ n. let o = owner s.objects s.classes c (from_top t 1) (entry-refers P s.objects t m 1 (omega arith)) (and-snd (is_field_value s.classes d (top_of t)) _ y) n in
      goes _ (field-clean P s h _ f (top_of t) b o.0 (rw o.1 k)) _ (popped-clean P t.class t p 2) _)

  start-clean : (k args : ℕ) → args ≤ (P.method k).vars → start_wait s ≡ 0 → Cleans P (start_move s i t args k)
  start-clean k args b w = goes _ begun _ (popped-clean P t.class t p (args + 1)) _
    where
      l : lowest_free s < 8
      l = ltb-true (lowest_free s) 8 (tested _ _ _ w).0

      begun : Clean P (with_thread s (lowest_free s) (started (thread_at s (lowest_free s)) t k args))
      begun = thread-clean P s h (lowest_free s) _ (started-clean P (thread_at s (lowest_free s)) t k args b (free-idle s l) (h.clean_at (lowest_free s) l))

  -- by what the table says of the instruction
  move-clean : WellFormed P → Belongs P s → Placed P s.objects t → (fails : Bool) (x : Instruction) → InstructionFits P.classes (λ d. (P.method d).fields) method.vars method.code t.at.0 x
      → fault_of P s i t method fails x ≡ 0 → wait_of s i t x ≡ 0 → Cleans P (move_of P s i t method fails x)
  move-clean wf g m fails Inc e f w = inc-clean f
  move-clean wf g m fails Pop e f w = pop-clean _
  move-clean wf g m fails Push0 e f w = push-clean zero_slot
  move-clean wf g m fails (Load v) e f w = push-clean (var_of t v.0)
  move-clean wf g m fails (Store v) e f w = store-clean v e.0
  move-clean wf g m fails (If a) e f w = either (Cleans P) (jumps (top_of t)) _ _ (λ _. pop-clean _) (λ _. pop-clean _)
  move-clean wf g m fails (Enter v a) e f w = enter-clean v a
  move-clean wf g m fails (Exit v) e f w = counted-clean (lock_of t v) _
  move-clean wf g m fails (New k a) e f w = either (Cleans P) (new_fails s fails) _ _ (λ _. throw-clean a (ref_slot 0)) (λ _. make-clean k)
  move-clean wf g m fails (Start k) e f w = start-clean k (P.method k).args (wf.args_vars k e.0) w
  move-clean wf g m fails (Throw a) e f w = throw-clean a (top_of t)
  move-clean wf g m fails Return e f w = end_clean 1
  move-clean wf g m fails (Get k d a) e f w = get-clean k d a f
  move-clean wf g m fails (Put k d a) e f w = put-clean k d ((P.method k).field d) a (omega (arith, wf.fields_4 k e.0)) e.1 g m f
  move-clean wf g m fails Nothing e f w = absurd e

step-cleans : (b : List ℕ) (s : State) (i : ℕ) (fails : Bool) → Clean (program_of b) s → Cleans (program_of b) (step_of b s i fails)
step-cleans b s i fails h = step_by (Cleans (program_of b)) b s i fails (λ n l. record { cleans = h }) go
  where
    go : Moving b s i fails → Cleans (program_of b) (move_of (program_of b) s i (thread_at s i) (method_here b s i) fails (instruction_here b s i))
    go m =
        let p = m.belongs.live_placed i m.thread_8 m.live in
        let e = m.formed.table (thread_at s i).class (thread_at s i).at.0 p.class_known p.address_first p.address_last in
        move-clean (program_of b) s h i (thread_at s i) (clean-live (program_of b) (thread_at s i) m.live (h.clean_at i m.thread_8)) m.formed m.belongs p fails (instruction_here b s i)
        e m.no_fault m.no_wait

-- THEOREM: where every place out of use is integer 0, it is so after a step, whatever the step answers; so too with 17 and 18, which give back the state as given.
pub step-clean : (b : List ℕ) (s : State) (i : ℕ) (fails : Bool) → Clean (program_of b) s → Clean (program_of b) (step_of b s i fails).state
step-clean b s i fails h = (step-cleans b s i fails h).cleans

-- ---- the fresh machine
empty-clean : (P : Program) → Clean P empty_state
empty-clean P =
    record {
      clean_at = λ i l. rw (get_or-replicate 8 i idle idle l) (record { variables = zero-new 0 16; places = zero-new 0 16 });
      clean_field = λ o f b u. (zero-new 0 128).zero_at (o * 4 + f) (omega arith);
      classes_32 = length-replicate {A = ℕ} 32 0;
    }

main-clean : (P : Program) → CleanThread P main_thread
main-clean P = record { variables = zero-new _ 16; places = zero-new 0 16 }

-- THEOREM: in a fresh machine, and in what is given with 17, every place out of use is integer 0.
pub fresh-clean : (b : List ℕ) → Clean (program_of b) (fresh_of b).state
unfolding fresh_of
fresh-clean b = made.cleans
  where
    made : Cleans (program_of b) (fresh_of b)
    made =
        refuses (Cleans (program_of b)) empty_state _ _ _ (λ _. record { cleans = empty-clean (program_of b) }) (λ e.
        record { cleans = thread-clean (program_of b) (with_object empty_state (program_of b).exception _) (object-clean (program_of b) empty_state (empty-clean (program_of b)) (program_of b).exception) 0 main_thread (main-clean (program_of b)) })

-- ---- a list of steps
-- THEOREM: where every place out of use is integer 0, it is so after any list of steps.
pub run-clean : (b : List ℕ) (s : State) (xs : List Step) → Clean (program_of b) s → Clean (program_of b) (run b s xs)
unfolding run
run-clean b s [] h = h
run-clean b s (x ∷ xs) h = run-clean b (after b s x) xs (step-clean b s x.who x.fails h)

-- THEOREM: along any list of steps from the fresh machine every place out of use is integer 0 (after each step of it, since a list cut short is a list).
pub reached-clean : (b : List ℕ) (xs : List Step) → Clean (program_of b) (reached b xs)
reached-clean b xs = run-clean b (fresh_of b).state xs (fresh-clean b)
