-- THEOREM: from a state of the bundle a step gives a state of the bundle, whatever it answers. (A state's counts are 256 and its words eight: with fewer, a count could be written whose bit has no place.)
use mathlib.Core.Path.{◌≡◌, refl, ◌∙◌}
use mathlib.Core.Bool.{Bool, true, false}
use mathlib.Core.List.{List}
use Prim.Native.Nat.{ℕ, ◌+◌, ◌≤◌, ◌<◌}
use native.Mathlib.Omega.{arith}
use native.Mathlib.Decide.{dec_lt}
use lib.ListN.{get_or, replicate, length-replicate, get_or-replicate}
use lib.Dec.{leb, eqb}
use borrow.Author.Tests.{ltb-true, leb-true, leb-false, eqb-true, eqb-false, lt-ltb}
use Rattle.ground.specs.Bounded.{set_below}
use Rattle.ground.proofs.Bools.{or_right, or-false-snd, never}
use Rattle.ground.proofs.Bounded.{all-elim}
use Rattle.ground.proofs.Chain.{tested}
use Rattle.ground.proofs.Writes.{set_below_lem, set-above}
use Rattle.instructions.specs.declared.Addr.{Addr}
use Rattle.instructions.specs.declared.Var.{Var}
use Rattle.instructions.specs.declared.Instruction.{Instruction}
use Rattle.instructions.specs.declared.Instruction.TheVariants.{Inc, Pop, Push0, Load, Store, If, Enter, Exit, New, Start, Throw, Return, Get, Put, Nothing}
use Rattle.instructions.proofs.Table.{InstructionFits}
use Rattle.bundle.specs.Program.{Method, Program, program_of}
use Rattle.structure.proofs.Structured.{WellFormed}
use Rattle.values.specs.declared.Slot.{Slot}
use Rattle.values.specs.Values.{zero_slot, ref_slot, is_null, is_ref, inc_slot, jumps, refers}
use Rattle.threads.specs.declared.Thread.{Thread}
use Rattle.threads.specs.Threads.{from_top, top_of, var_of, with_at, topped, pushed, popped, stored, ended, started}
use Rattle.state.specs.declared.State.{State}
use Rattle.state.specs.State.{thread_at, count_of, with_thread, with_count, with_field, with_object, free_of, others_free, is_free, holds_nothing, lowest_free}
use Rattle.belongs.specs.Belongs.{state_ok}
use Rattle.belongs.proofs.Belongs.{Placed, Belongs, refers-object, belongs-elim, belongs-intro}
use Rattle.turns.specs.Stepped.{Stepped}
use Rattle.turns.specs.Faults.{lock_of, top_fault, int_fault, push_fault, enter_fault, exit_fault, end_fault, throw_fault, athrow_fault, new_fails, new_fault, start_fault, get_fault, put_fault, fault_of}
use Rattle.turns.specs.Waits.{enter_wait, wait_of}
use Rattle.turns.specs.Moves.{went_to, went_on, inc_move, store_move, if_move, counted, enter_move, exit_move, end_move, caught, throw_move, fail_move, first_fields, make_move, new_move, get_move, put_move, start_move, move_of}
use Rattle.machine.specs.Machine.{step_of}
use Rattle.machine.proofs.Refusals.{either, method_here, instruction_here, Moving, step_by}
use Rattle.machine.proofs.Moved.{refers-inc, placed-more, a-ref, owner, Moved, unmoved, entry-refers, moved-topped, moved_pushed, moved-popped, moved-stored, moved-placed}
use Rattle.machine.proofs.Changes.{Sized, counted-sized, grown, first-refers, thread-belongs, count-belongs, field-belongs, object-belongs}

pub record Stays (P : Program) (r : Stepped) : Type 0 where
  pub stays : Belongs P r.state
  pub sized : Sized r.state

-- what writes neither counts nor words
same-sized : (s s' : State) → Sized s → s'.counts ≡ s.counts → s'.held ≡ s.held → Sized s'
same-sized s s' z p q = record { counts_256 = rw p z.counts_256; held_8 = rw q z.held_8 }

started-live : (old t : Thread) (c args : ℕ) → (started old t c args).live ≡ true
unfolding started
started-live old t c args = refl

module _ (P : Program) (wf : WellFormed P) (s : State) (h : Belongs P s) (z : Sized s) (i : ℕ) (l : i < 8) (t : Thread) (live : t.live ≡ true) (p : Placed P s.objects t) where
  abbrev method : Method
  method = P.method t.class

  goes : (s' : State) → Belongs P s' → Sized s' → (u : Thread) → Moved P s'.objects t u → (a : ℕ) → 1 ≤ a → a ≤ method.code → Stays P (went_to s' i u a)
  goes s' h' z' u m a f k =
      record {
        stays = thread-belongs P s' h' i (with_at u a) (λ e. moved-placed P s'.objects t u m a p.class_known f k) (λ o b n. m.same_live ∙ live);
        sized = same-sized s' (with_thread s' i (with_at u a)) z' refl refl;
      }

  on : (s' : State) → Belongs P s' → Sized s' → (u : Thread) → Moved P s'.objects t u → t.at.0 < method.code → Stays P (went_on s' i t.at u)
  on s' h' z' u m k = goes s' h' z' u m (t.at.0 + 1) (omega arith) (omega arith)

  as-was : Moved P s.objects t t
  as-was = unmoved P s.objects t p

  top-refers : leb 1 t.depth ≡ true → refers s.objects (top_of t) ≡ true
  top-refers e = entry-refers P s.objects t p 0 (leb-true 1 t.depth e)

  inc-stays : t.at.0 < method.code → int_fault t ≡ 0 → Stays P (inc_move s i t)
  inc-stays k f =
      on s h z (topped t (inc_slot (top_of t))) (moved-topped P s.objects t t as-was _ (refers-inc s.objects (top_of t) (top-refers (tested _ _ _ f).0))) k

  pop-stays : (a : ℕ) → 1 ≤ a → a ≤ method.code → Stays P (went_to s i (popped 1 t) a)
  pop-stays = goes s h z (popped 1 t) (moved-popped P s.objects t t as-was 1)

  push-stays : t.at.0 < method.code → (x : Slot) → refers s.objects x ≡ true → push_fault t method.limit ≡ 0 → Stays P (went_on s i t.at (pushed t x))
  push-stays k x r f =
      on s h z (pushed t x) (moved_pushed P s.objects t t as-was x r (ltb-true _ _ (tested _ _ _ f).0) (wf.limit_16 t.class p.class_known)) k

  store-stays : t.at.0 < method.code → (v : Var) → top_fault t ≡ 0 → Stays P (store_move s i t v)
  store-stays k v f =
      on s h z (popped 1 (stored t v.0 (top_of t))) (moved-popped P s.objects t _ (moved-stored P s.objects t t as-was v.0 _ (top-refers (tested _ _ _ f).0)) 1) k

  if-stays : t.at.0 < method.code → (a : Addr) → 1 ≤ a.0 → a.0 ≤ method.code → Stays P (if_move s i t a)
  if-stays k a f g = either (Stays P) (jumps (top_of t)) _ _ (λ _. pop-stays a.0 f g) (λ _. pop-stays (t.at.0 + 1) (omega arith) (omega arith))

  -- the object that a variable in use refers to
  known : (v : Var) → v.0 < method.vars → is_ref (var_of t v.0) ≡ true → lock_of t v < s.objects
  known v b e = refers-object s.objects (var_of t v.0) (p.variable_refers v.0 b) e

  counted-stays : (thread_at s i).live ≡ true → t.at.0 < method.code → (o n : ℕ) → o < s.objects → n ≤ 2047
      → ((j : ℕ) → j < 8 → 0 < count_of s.counts j o → j ≡ i) → Stays P (counted s i t o n)
  counted-stays a k o n b m others = on (with_count s i o n) (count-belongs P s h z i o n l b a m others) (counted-sized s z i o n) t as-was k

  others-free : (o j : ℕ) → others_free s.counts i o ≡ true → j < 8 → 0 < count_of s.counts j o → j ≡ i
  unfolding others_free
  others-free o j e b n = go (eqb j i) refl
    where
      free : free_of s.counts i o j ≡ true
      free = all-elim (free_of s.counts i o) 8 e j b

      go : (q : Bool) → eqb j i ≡ q → j ≡ i
      go true q = eqb-true j i q
      go false q = absurd (omega (arith, eqb-true (count_of s.counts j o) 0 (or_right (eqb j i) _ free q)))

  exit-stays : (thread_at s i).live ≡ true → t.at.0 < method.code → (v : Var) → v.0 < method.vars → exit_fault s.counts i t v ≡ 0
      → Stays P (exit_move s i t v)
  exit-stays a k v b f =
      let e = tested _ _ _ f in
      let small : lock_of t v < 32 = omega (arith, known v b e.0, h.objects_32) in
      counted-stays a k (lock_of t v) _ (known v b e.0) (omega (arith, (h.counted i _ l small).count_2047))
      (λ j c n. h.one_holder j i _ c l small n (ltb-true _ _ (tested _ _ _ e.1).0))

  end_stays : (vars n : ℕ) → end_fault s.counts i ≡ 0 → Stays P (end_move s i t vars n)
  unfolding holds_nothing ended
  end_stays vars n f =
      record {
        stays = thread-belongs P s h i (ended vars t) (λ a. never a refl) (λ o b c. absurd (omega (arith, eqb-true (count_of s.counts i o) 0 (all-elim (is_free s.counts i) 32 (tested _ _ _ f).0 o b))));
        sized = same-sized s (with_thread s i (ended vars t)) z refl refl;
      }

  throw-stays : (vars : ℕ) (a : Addr) (x : Slot) → a.0 ≤ method.code → refers s.objects x ≡ true
      → throw_fault s.counts i method.limit a ≡ 0 → Stays P (throw_move s i t vars a x)
  unfolding popped
  throw-stays vars a x g r f =
      either (Stays P) (eqb a.0 0) _ _ (λ e. end_stays vars 2 (rw e at f))
      (λ e. let some = leb-true 1 method.limit (tested _ _ _ (rw e at f)).0 in
      goes s h z (caught t x)
      (moved_pushed P s.objects t (popped t.depth t) (moved-popped P s.objects t t as-was t.depth) x r (omega arith) (wf.limit_16 t.class p.class_known))
      a.0 (omega (arith, eqb-false a.0 0 e)) g)

  -- null throws object 0
  null-stays : (vars : ℕ) (a : Addr) → a.0 ≤ method.code → throw_fault s.counts i method.limit a ≡ 0 → Stays P (fail_move s i t vars a)
  null-stays vars a g = throw-stays vars a (ref_slot 0) g (lt-ltb 0 s.objects (omega (arith, h.some_object)))

  enter-stays : (thread_at s i).live ≡ true → t.at.0 < method.code → (vars : ℕ) (v : Var) → v.0 < method.vars → (a : Addr) → a.0 ≤ method.code
      → enter_fault s.counts i t v method.limit a ≡ 0 → enter_wait s.counts i t v ≡ 0 → Stays P (enter_move s i t vars v a)
  enter-stays live' k vars v b a g f w =
      let e = tested _ _ _ f in
      either (Stays P) (is_null (var_of t v.0)) _ _ (λ n. null-stays vars a g (rw n at e.1))
      (λ n. let few = ltb-true (count_of s.counts i (lock_of t v)) 2047 (tested _ _ _ (rw n at e.1)).0 in
      counted-stays live' k (lock_of t v) _ (known v b (a-ref (var_of t v.0) e.0 n)) (omega arith) (λ j. others-free _ j (tested _ _ _ (rw n at w)).0))

  athrow-stays : (vars : ℕ) (a : Addr) → a.0 ≤ method.code → athrow_fault s i t P.exception method.limit a ≡ 0 → Stays P (throw_move s i t vars a (top_of t))
  athrow-stays vars a g f = let e = tested _ _ _ f in throw-stays vars a (top_of t) g (top-refers e.0) (tested _ _ _ e.1).1

  get-stays : t.at.0 < method.code → (vars c f : ℕ) → f < (P.method c).fields → (a : Addr) → a.0 ≤ method.code
      → get_fault s i t c method.limit a ≡ 0 → Stays P (get_move s i t vars f a)
  get-stays k vars c f b a g q =
      let e = tested _ _ _ q in
      let y = tested _ _ _ e.1 in
      either (Stays P) (is_null (top_of t)) _ _ (λ n. null-stays vars a g (rw n at y.1))
      (λ n. let o = owner s.objects s.classes c (top_of t) (top-refers e.0) y.0 n in
      on s h z (topped t _) (moved-topped P s.objects t t as-was _ (h.field_refers _ f o.0 (rw o.1 b))) k)

  put-stays : t.at.0 < method.code → (vars c d f : ℕ) (a : Addr) → a.0 ≤ method.code
      → put_fault s i t c d method.limit a ≡ 0 → Stays P (put_move s i t vars f a)
  put-stays k vars c d f a g q =
      let e = tested _ _ _ q in
      let y = tested _ _ _ e.1 in
      let two = leb-true 2 t.depth e.0 in
      either (Stays P) (is_null (from_top t 1)) _ _ (λ n. null-stays vars a g (rw n at y.1))
      (λ n. on (with_field s _ f (top_of t)) (field-belongs P s h _ f (top_of t) (entry-refers P s.objects t p 0 (omega arith))) (same-sized s (with_field s _ f (top_of t)) z refl refl)
      (popped 2 t) (moved-popped P s.objects t t as-was 2) k)

  make-stays : t.at.0 < method.code → (c : ℕ) → c < P.classes → s.objects < 32 → push_fault t method.limit ≡ 0 → Stays P (make_move P s i t c)
  unfolding with_object
  make-stays k c b m f =
      rw (lt-ltb s.objects 32 m)
      (on (grown s c (first_fields (P.method c))) (object-belongs P s h c _ b m wf.fields_4 (first-refers (P.method c) (s.objects + 1))) (same-sized s (grown s c (first_fields (P.method c))) z refl refl) (pushed t (ref_slot s.objects))
      (moved_pushed P (s.objects + 1) t t (unmoved P (s.objects + 1) t (placed-more P s.objects t p)) _ (lt-ltb s.objects (s.objects + 1) (omega arith)) (ltb-true _ _ (tested _ _ _ f).0) (wf.limit_16 t.class p.class_known)) k)

  new-stays : t.at.0 < method.code → (vars c : ℕ) → c < P.classes → (a : Addr) → a.0 ≤ method.code → (fails : Bool)
      → new_fault s i t method.limit a fails ≡ 0 → Stays P (new_move P s i t vars c a fails)
  new-stays k vars c b a g fails f =
      either (Stays P) (new_fails s fails) _ _
      (λ e. null-stays vars a g (rw e at f))
      (λ e. make-stays k c b (leb-false 32 s.objects (or-false-snd fails _ e)) (rw e at f))

  started-placed : (old : Thread) (c args : ℕ) → c < P.classes → args ≤ (P.method c).vars → args < t.depth → Placed P s.objects (started old t c args)
  unfolding started
  started-placed old c args b f g =
      record {
        class_known = b;
        address_first = omega arith;
        address_last = wf.some_code c b;
        depth_limit = omega arith;
        variable_refers = λ v e. at v e (dec_lt v args);
        stack_refers = λ q e. absurd (omega arith);
      }
    where
      at : (v : ℕ) → v < (P.method c).vars → Dec (v < args)
          → refers s.objects (get_or (set_below args (from_top t) (replicate 16 zero_slot)) v zero_slot) ≡ true
      at v e (yes d) =
          rw (set_below_lem (from_top t) (replicate 16 zero_slot) args v zero_slot d (omega (arith, wf.vars_16 c b, length-replicate 16 zero_slot)))
          (entry-refers P s.objects t p v (omega arith))
      at v e (no d) =
          rw (set-above (from_top t) (replicate 16 zero_slot) args v zero_slot (omega arith), get_or-replicate 16 v zero_slot zero_slot (omega (arith, wf.vars_16 c b)))
          refl

  start-stays : t.at.0 < method.code → (c : ℕ) → c < P.classes → start_fault s.classes t (P.method c).args (P.method c).descriptor c ≡ 0
      → Stays P (start_move s i t (P.method c).args c)
  start-stays k c b f =
      on (with_thread s (lowest_free s) begun) joined (same-sized s (with_thread s (lowest_free s) begun) z refl refl)
      (popped ((P.method c).args + 1) t) (moved-popped P s.objects t t as-was ((P.method c).args + 1)) k
    where
      begun : Thread
      begun = started (thread_at s (lowest_free s)) t c (P.method c).args

      enough : (P.method c).args + 1 ≤ t.depth
      enough = leb-true _ _ (tested _ _ _ f).0

      joined : Belongs P (with_thread s (lowest_free s) begun)
      joined =
          thread-belongs P s h (lowest_free s) begun
          (λ a. started-placed (thread_at s (lowest_free s)) c (P.method c).args b (wf.args_vars c b) (omega (arith, enough))) (λ o f n. started-live _ t c _)

  -- by what the table says of the instruction and of the last address
  move-stays : (thread_at s i).live ≡ true → (fails : Bool) (x : Instruction)
      → InstructionFits P.classes (λ d. (P.method d).fields) method.vars method.code t.at.0 x
      → fault_of P s i t method fails x ≡ 0 → wait_of s i t x ≡ 0 → Stays P (move_of P s i t method fails x)
  move-stays a fails Inc e f w = inc-stays e f
  move-stays a fails Pop e f w = pop-stays (t.at.0 + 1) (omega arith) (omega arith)
  move-stays a fails Push0 e f w = push-stays e zero_slot refl f
  move-stays a fails (Load v) e f w = push-stays e.1 (var_of t v.0) (p.variable_refers v.0 e.0) f
  move-stays a fails (Store v) e f w = store-stays e.1 v f
  move-stays a fails (If b) e f w = if-stays e.1 b e.0.0 e.0.1
  move-stays a fails (Enter v b) e f w = enter-stays a e.2 method.vars v e.0 b e.1 f w
  move-stays a fails (Exit v) e f w = exit-stays a e.1 v e.0 f
  move-stays a fails (New c b) e f w = new-stays e.2 method.vars c e.0 b e.1 fails f
  move-stays a fails (Start c) e f w = start-stays e.1 c e.0 f
  move-stays a fails (Throw b) e f w = athrow-stays method.vars b e f
  move-stays a fails Return e f w = end_stays method.vars 1 f
  move-stays a fails (Get c d b) e f w = get-stays e.3 method.vars c d e.1 b e.2 f
  move-stays a fails (Put c d b) e f w = put-stays e.3 method.vars c ((P.method c).field d) d b e.2 f
  move-stays a fails Nothing e f w = absurd e

step_stays : (b : List ℕ) (s : State) (i : ℕ) (fails : Bool) → Belongs (program_of b) s → Sized s → Stays (program_of b) (step_of b s i fails)
step_stays b s i fails h z = step_by (Stays (program_of b)) b s i fails (λ n l. record { stays = h; sized = z }) go
  where
    go : Moving b s i fails → Stays (program_of b) (move_of (program_of b) s i (thread_at s i) (method_here b s i) fails (instruction_here b s i))
    go m =
        let p = h.live_placed i m.thread_8 m.live in
        let e = m.formed.table (thread_at s i).class (thread_at s i).at.0 p.class_known p.address_first p.address_last in
        move-stays (program_of b) m.formed s h z i m.thread_8 (thread_at s i) m.live p m.live fails (instruction_here b s i)
        e m.no_fault m.no_wait

pub step-belongs : (b : List ℕ) (s : State) (i : ℕ) (fails : Bool) → Sized s → state_ok (program_of b) s ≡ true
    → (state_ok (program_of b) (step_of b s i fails).state ≡ true) × Sized (step_of b s i fails).state
step-belongs b s i fails z e =
    let r = step_stays b s i fails (belongs-elim (program_of b) s e) z in
    (belongs-intro (program_of b) (step_of b s i fails).state r.stays, r.sized)
