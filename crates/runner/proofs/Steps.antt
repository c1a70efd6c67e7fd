-- One law an instruction: what its function writes is document 01's step. Here those that change nothing but their thread.
use mathlib.Core.List.{List}
use mathlib.Core.Path.{◌≡◌, refl, sym, ap, subst, ◌∙◌}
use mathlib.Core.Bool.{Bool, true, false, cond}
use Prim.Native.Nat.{ℕ, ◌+◌, ◌<◌, ◌≤◌}
use lib.Dec.{eqb}
use native.Mathlib.Omega.{arith}
use borrow.Author.Tests.{leb-true, ltb-true, ne_eqb}
use Rattle.ground.proofs.Chain.{refused as stopped}
use Rattle.instructions.specs.declared.Addr.{Addr}
use Rattle.instructions.specs.declared.Var.{Var}
use Rattle.instructions.specs.declared.Instruction.{Instruction}
use Rattle.instructions.specs.declared.Instruction.TheVariants.{Inc, Pop, Push0, Load, Store, If, Throw, Return, Nothing}
use Rattle.instructions.proofs.Table.{InstructionFits}
use Rattle.bundle.specs.Program.{program_of}
use Rattle.values.specs.declared.Slot.{Slot}
use Rattle.values.specs.Values.{is_int, jumps}
use Rattle.threads.specs.declared.Thread.{Thread}
use Rattle.threads.specs.Threads.{top_of, with_at, pushed, popped, stored, ended}
use Rattle.state.specs.State.{with_thread}
use Rattle.turns.specs.Stepped.{Stepped}
use Rattle.turns.specs.Answers.{refused, unless_drawn}
use Rattle.turns.specs.Faults.{has, room, fault_of}
use Rattle.turns.specs.Waits.{wait_of}
use Rattle.turns.specs.Moves.{went_to, went_on, caught, end_move, throw_move, move_of}
use Rattle.memory.specs.Words.{slot_of, inc_word}
use Rattle.memory.specs.declared.Frame.{Frame}
use Rattle.memory.specs.Frames.{address_in, depth_in, thread_in, top_in, var_in, went_in, topped_in, pushed_in, popped_in, stored_in, branched_in, ended_in, caught_in, thrown_in}
use Rattle.memory.proofs.Meaning.{word-zero}
use Rattle.memory.proofs.Writes.{var-read, top_read}
use Rattle.memory.proofs.Frames.{Is, went-is, pushed-is, popped-is, stored_is, caught-is, ended_is, inc_is, branched-is}
use Rattle.runner.specs.declared.table.Row.{Row}
use Rattle.runner.specs.declared.running.Memory.{Memory}
use Rattle.runner.specs.Memory.{frame_of, framed, state_from, Sized, Acted, acted, threw_in}
use Rattle.runner.specs.Poised.{Poised, Turned}
use Rattle.runner.proofs.Stores.{threads-set, sized_set}
use Rattle.runner.proofs.Known.{test-holds, test-rest, none-drawn, P, S, F, T, M, X, no-fault-here, step_is, few-vars, few-places, depth-16, short-code, next_fits, frame_16, fits}

module _ (b : List ℕ) (table : List Row) (m : Memory) (i : ℕ) (z : Poised b table m i) (fails : Bool) where
  abbrev here : Thread
  here = thread_in (frame_of m.frames i)

  -- what the fault of x would test
  pub quiet : (x : Instruction) → X b table m i z ≡ x → fault_of (P b table m i z) (S b table m i z) i (T b table m i z) (M b table m i z) fails x ≡ 0
  quiet x q = subst (λ (y : Instruction). fault_of (program_of b) (state_from m) i here (M b table m i z) fails y ≡ 0) q (no-fault-here b table m i z fails)

  pub listed : (x : Instruction) → X b table m i z ≡ x
      → InstructionFits (program_of b).classes (λ d. ((program_of b).method d).fields) (M b table m i z).vars (M b table m i z).code (address_in (F b table m i z)) x
  listed x q =
      subst (λ (y : Instruction). InstructionFits (program_of b).classes (λ d. ((program_of b).method d).fields) (M b table m i z).vars (M b table m i z).code (address_in (F b table m i z)) y) q
      (fits b table m i z)

  -- the step at x
  step-at : (x : Instruction) → X b table m i z ≡ x
      → unless_drawn (wait_of (state_from m) i here x) (state_from m) (move_of (program_of b) (state_from m) i here (M b table m i z) fails x)
      ≡ unless_drawn (wait_of (state_from m) i here (X b table m i z)) (state_from m) (move_of (program_of b) (state_from m) i here (M b table m i z) fails (X b table m i z))
  step-at x q = ap (λ (y : Instruction). unless_drawn (wait_of (state_from m) i here y) (state_from m) (move_of (program_of b) (state_from m) i here (M b table m i z) fails y)) (sym q)

  -- it makes its move
  pub goes : (x : Instruction) → X b table m i z ≡ x → wait_of (S b table m i z) i (T b table m i z) x ≡ 0 → (m' : Memory) (n : ℕ) → Sized m'.frames m'.fields
      → move_of (P b table m i z) (S b table m i z) i (T b table m i z) (M b table m i z) fails x ≡ record { answer = n; state = state_from m' } → Turned b m m' n i fails
  goes x q w m' n s e = record { sized = s; step = sym (step_is b table m i z fails ∙ sym (step-at x q) ∙ none-drawn _ (state_from m) _ w ∙ e) }

  -- it waits: the frame is as it was
  pub waits : (x : Instruction) → X b table m i z ≡ x → (n : ℕ) → wait_of (S b table m i z) i (T b table m i z) x ≡ n → 1 ≤ n → Turned b m m n i fails
  unfolding unless_drawn
  waits x q n w l =
      record {
        sized = z.running.sized;
        step = sym (step_is b table m i z fails ∙ sym (step-at x q) ∙ (rw w) ∙ drawn n l (move_of (program_of b) (state_from m) i here (M b table m i z) fails x));
      }
    where
      drawn : (n : ℕ) → 1 ≤ n → (rest : Stepped) → unless_drawn n (state_from m) rest ≡ refused n (state_from m)
      drawn n l rest = stopped _ _ (ne_eqb n 0 (omega arith))

  -- the thread goes on as u, and nothing else changes
  pub moved : (x : Instruction) → X b table m i z ≡ x → wait_of (S b table m i z) i (T b table m i z) x ≡ 0 → (p : Frame) (u : Thread) (n : ℕ) → Is p u
      → move_of (P b table m i z) (S b table m i z) i (T b table m i z) (M b table m i z) fails x ≡ record { answer = n; state = with_thread (S b table m i z) i u }
      → Turned b m (framed m i p) n i fails
  moved x q w p u n h e =
      goes x q w (framed m i p) n (sized_set m.frames i p z.running.sized.frames_8 z.thread_8 m.fields z.running.sized h.sized)
      (e ∙ ap (λ (ts : List Thread). record { answer = n; state = record { threads = ts; counts = m.counts; objects = m.objects; classes = m.classes; fields = (state_from m).fields; held = m.held } })
      (sym (threads-set m.frames i p z.running.sized.frames_8 z.thread_8 u h.thread)))

  -- the thread goes on as u at the next address
  went : (x : Instruction) → X b table m i z ≡ x → wait_of (state_from m) i here x ≡ 0 → (p : Frame) (u : Thread) → Is p u
      → move_of (program_of b) (state_from m) i here (M b table m i z) fails x ≡ went_on (state_from m) i here.at u
      → (p' : Frame) → p' ≡ went_in p (address_in (F b table m i z) + 1) → Turned b m (framed m i p') 0 i fails
  went x q w p u h e p' f =
      moved x q w p' (with_at u (address_in (F b table m i z) + 1)) 0 (rw f (went-is p u (address_in (F b table m i z) + 1) h (next_fits b table m i z))) e

  -- ---- inc, pop, push0, load, store, if
  module _ (q : X b table m i z ≡ Inc) where
    pub inc-turned : (p' : Frame) → p' ≡ went_in (topped_in (F b table m i z) (inc_word (top_in (F b table m i z)))) (address_in (F b table m i z) + 1) → Turned b m (framed m i p') 0 i fails
    inc-turned =
        let k = quiet Inc q in
        let l : 1 ≤ depth_in (F b table m i z) = leb-true 1 _ (test-holds (has 1 here) 11 _ (omega arith) k) in
        let g : is_int (top_of here) ≡ true = test-holds (is_int (top_of here)) 13 0 (omega arith) (test-rest (has 1 here) 11 _ (omega arith) k) in
        went Inc q refl _ _ (inc_is (F b table m i z) (frame_16 b table m i z) (depth-16 b table m i z) g l) refl

  module _ (q : X b table m i z ≡ Pop) where
    pub pop-turned : (p' : Frame) → p' ≡ went_in (popped_in (F b table m i z)) (address_in (F b table m i z) + 1) → Turned b m (framed m i p') 0 i fails
    pop-turned =
        let l : 1 ≤ depth_in (F b table m i z) = leb-true 1 _ (test-holds (has 1 here) 11 0 (omega arith) (quiet Pop q)) in
        went Pop q refl _ _ (popped-is (F b table m i z) (frame_16 b table m i z) (depth-16 b table m i z) l) refl

  pub pushes : room (M b table m i z).limit here ≡ true → depth_in (F b table m i z) < 16
  pushes e = omega (arith, ltb-true (depth_in (F b table m i z)) (M b table m i z).limit e, few-places b table m i z)

  module _ (q : X b table m i z ≡ Push0) where
    pub push0-turned : (p' : Frame) → p' ≡ went_in (pushed_in (F b table m i z) 0) (address_in (F b table m i z) + 1) → Turned b m (framed m i p') 0 i fails
    push0-turned =
        let l = pushes (test-holds (room (M b table m i z).limit here) 12 0 (omega arith) (quiet Push0 q)) in
        went Push0 q refl _ _ (pushed-is (F b table m i z) (frame_16 b table m i z) 0 l)
        (ap (λ (x : Slot). went_on (state_from m) i here.at (pushed here x)) (sym word-zero))

  var-16 : (v : Var) → v.0 < (M b table m i z).vars → v.0 < 16
  var-16 v l = omega (arith, few-vars b table m i z)

  module _ (v : Var) (q : X b table m i z ≡ Load v) where
    pub load-turned : (p' : Frame) → p' ≡ went_in (pushed_in (F b table m i z) (var_in (F b table m i z) v.0)) (address_in (F b table m i z) + 1)
        → Turned b m (framed m i p') 0 i fails
    load-turned =
        let l = pushes (test-holds (room (M b table m i z).limit here) 12 0 (omega arith) (quiet (Load v) q)) in
        went (Load v) q refl _ _ (pushed-is (F b table m i z) (frame_16 b table m i z) (var_in (F b table m i z) v.0) l)
        (ap (λ (x : Slot). went_on (state_from m) i here.at (pushed here x)) (var-read (F b table m i z) v.0 (var-16 v (listed (Load v) q).0)))

  module _ (v : Var) (q : X b table m i z ≡ Store v) where
    pub store-turned : (p' : Frame) → p' ≡ went_in (popped_in (stored_in (F b table m i z) v.0 (top_in (F b table m i z)))) (address_in (F b table m i z) + 1) → Turned b m (framed m i p') 0 i fails
    unfolding stored
    store-turned =
        let l : 1 ≤ depth_in (F b table m i z) = leb-true 1 _ (test-holds (has 1 here) 11 0 (omega arith) (quiet (Store v) q)) in
        let k : Is (stored_in (F b table m i z) v.0 (top_in (F b table m i z))) (stored here v.0 (slot_of (top_in (F b table m i z)))) =
        stored_is (F b table m i z) (frame_16 b table m i z) v.0 (top_in (F b table m i z)) (var-16 v (listed (Store v) q).0) in
        let h = popped-is (stored_in (F b table m i z) v.0 (top_in (F b table m i z))) k.sized (depth-16 b table m i z) l in
        went (Store v) q refl (popped_in (stored_in (F b table m i z) v.0 (top_in (F b table m i z)))) (popped 1 (stored here v.0 (slot_of (top_in (F b table m i z)))))
        (record { sized = h.sized; thread = h.thread ∙ ap (popped 1) k.thread })
        (ap (λ (x : Slot). went_on (state_from m) i here.at (popped 1 (stored here v.0 x))) (top_read (F b table m i z) l (depth-16 b table m i z)))

  module _ (a : Addr) (q : X b table m i z ≡ If a) where
    pub if-turned : (p' : Frame) → p' ≡ branched_in (F b table m i z) a.0 (address_in (F b table m i z) + 1) → Turned b m (framed m i p') 0 i fails
    if-turned p' f =
        let k = quiet (If a) q in
        let l : 1 ≤ depth_in (F b table m i z) = leb-true 1 _ (test-holds (has 1 here) 11 _ (omega arith) k) in
        let g : is_int (top_of here) ≡ true = test-holds (is_int (top_of here)) 13 0 (omega arith) (test-rest (has 1 here) 11 _ (omega arith) k) in
        moved (If a) q refl p' _ 0
        (rw f (branched-is (F b table m i z) (frame_16 b table m i z) (depth-16 b table m i z) g l a.0 (address_in (F b table m i z) + 1)
        (omega (arith, (listed (If a) q).0.1, short-code b table m i z)) (next_fits b table m i z)))
        (branches (jumps (top_of here)))
      where
        branches : (t : Bool) → cond t (went_to (state_from m) i (popped 1 here) a.0) (went_on (state_from m) i here.at (popped 1 here))
            ≡ record { answer = 0; state = with_thread (state_from m) i (with_at (popped 1 here) (cond t a.0 (address_in (F b table m i z) + 1))) }
        branches true = refl
        branches false = refl

  -- ---- what is thrown, and return
  thrown-is : (h w : ℕ) → h < 65536
      → Is (thrown_in (F b table m i z) (M b table m i z).vars h w) (cond (eqb h 0) (ended (M b table m i z).vars here) (with_at (caught here (slot_of w)) h))
  thrown-is h w l = go (eqb h 0)
    where
      go : (t : Bool) → Is (cond t (ended_in (F b table m i z) (M b table m i z).vars) (went_in (caught_in (F b table m i z) w) h))
          (cond t (ended (M b table m i z).vars here) (with_at (caught here (slot_of w)) h))
      go true = ended_is (F b table m i z) (frame_16 b table m i z) (depth-16 b table m i z) (M b table m i z).vars (few-vars b table m i z)
      go false = went-is _ _ h (caught-is (F b table m i z) (frame_16 b table m i z) (depth-16 b table m i z) w) l

  pub threw : (x : Instruction) → X b table m i z ≡ x → wait_of (S b table m i z) i (T b table m i z) x ≡ 0 → (h : Addr) (w : ℕ) → h.0 ≤ (M b table m i z).code
      → move_of (P b table m i z) (S b table m i z) i (T b table m i z) (M b table m i z) fails x ≡ throw_move (S b table m i z) i (T b table m i z) (M b table m i z).vars h (slot_of w)
      → Turned b m (framed m i (thrown_in (F b table m i z) (M b table m i z).vars h.0 w)) (cond (eqb h.0 0) 2 0) i fails
  threw x q k h w l e = moved x q k _ _ (cond (eqb h.0 0) 2 0) (thrown-is h.0 w (omega (arith, short-code b table m i z))) (e ∙ throws (eqb h.0 0))
    where
      throws : (t : Bool) → cond t (end_move (state_from m) i here (M b table m i z).vars 2) (went_to (state_from m) i (caught here (slot_of w)) h.0)
          ≡ record {
            answer = cond t 2 0;
            state = with_thread (state_from m) i (cond t (ended (M b table m i z).vars here) (with_at (caught here (slot_of w)) h.0));
          }
      throws true = refl
      throws false = refl

  module _ (h : Addr) (q : X b table m i z ≡ Throw h) where
    pub throw-turned : (r : ℕ) (m' : Memory) (w : ℕ) → w ≡ top_in (F b table m i z) → acted r m' ≡ threw_in m i (M b table m i z).vars h.0 w → Turned b m m' r i fails
    throw-turned r m' w ew e =
        let l : 1 ≤ depth_in (F b table m i z) = leb-true 1 _ (test-holds (has 1 here) 11 _ (omega arith) (quiet (Throw h) q)) in
        subst (λ (x : Acted). Turned b m x.after x.answer i fails) (sym e)
        (threw (Throw h) q refl h w (listed (Throw h) q)
        (ap (throw_move (state_from m) i here (M b table m i z).vars h) (top_read (F b table m i z) l (depth-16 b table m i z) ∙ ap slot_of (sym ew))))

  module _ (q : X b table m i z ≡ Return) where
    pub return-turned : (p' : Frame) → p' ≡ ended_in (F b table m i z) (M b table m i z).vars → Turned b m (framed m i p') 1 i fails
    return-turned p' ep =
        moved Return q refl p' _ 1 (rw ep (ended_is (F b table m i z) (frame_16 b table m i z) (depth-16 b table m i z) (M b table m i z).vars (few-vars b table m i z))) refl

  -- no instruction: not in an accepted bundle
  pub never-nothing : X b table m i z ≡ Nothing → ⊥
  never-nothing q = listed Nothing q
