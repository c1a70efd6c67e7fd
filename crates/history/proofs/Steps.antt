-- Every step tells: with its event the invariant goes on. A new instruction has its line at the end.
use mathlib.Core.Path.{◌≡◌, refl, sym, ◌∙◌}
use mathlib.Core.Logic.{◌⊎◌, inl, inr, ⊎_elim}
use mathlib.Core.Bool.{Bool, true, false, cond}
use mathlib.Core.List.{List, ◌∷◌}
use Prim.Native.Nat.{ℕ, ◌+◌, ◌-◌, ◌*◌, ◌%◌, ◌≤◌, ◌<◌}
use lib.Dec.{eqb}
use lib.ListN.{get_or, set, length-set}
use native.Mathlib.Omega.{arith}
use borrow.Author.Tests.{ltb-true, eqb-true, ne_eqb}
use Rattle.ground.proofs.Bools.{and-false}
use Rattle.instructions.specs.declared.Addr.{Addr}
use Rattle.instructions.specs.declared.Code.{Code}
use Rattle.instructions.specs.Table.{addr, var, Line, table, find, line_of}
use Rattle.instructions.proofs.Table.{InstructionFits}
use Rattle.bundle.specs.Program.{Method, Program, program_of}
use Rattle.values.specs.declared.Slot.{Slot}
use Rattle.values.specs.Values.{zero_slot, ref_slot, is_null, is_ref, inc_slot, jumps}
use Rattle.threads.specs.declared.Thread.{Thread}
use Rattle.threads.specs.Threads.{idle, from_top, top_of, var_of, with_at, topped, pushed, popped, stored, ended, started}
use Rattle.state.specs.declared.State.{State}
use Rattle.state.specs.State.{thread_at, count_of, with_thread, with_count, with_field, with_object, lowest_free}
use Rattle.belongs.proofs.Belongs.{Placed, Belongs, refers-object}
use Rattle.turns.specs.Stepped.{Stepped}
use Rattle.turns.specs.Answers.{refused}
use Rattle.turns.specs.Faults.{lock_of, enter_fault, exit_fault, new_fails, fault_of}
use Rattle.turns.specs.Waits.{start_wait, wait_of}
use Rattle.turns.specs.Moves.{went_to, counted, end_move, caught, throw_move, enter_move, exit_move, first_fields, new_move, get_move, put_move, start_move, if_move, move_of}
use Rattle.machine.specs.Runs.{Step, after}
use Rattle.ground.proofs.Chain.{tested}
use Rattle.machine.proofs.Refusals.{either, method_here, instruction_here, Moving, step_by}
use Rattle.machine.proofs.Writes.{write-or}
use Rattle.machine.proofs.Moved.{a-ref}
use Rattle.history.specs.Event.{Event}
use Rattle.history.specs.Reading.{starts}
use Rattle.history.specs.Meeting.{code_here, instruction_met, meeting}
use Rattle.history.specs.History.{event, event_of}
use Rattle.history.proofs.Meeting.{met-live, met_runs}
use Rattle.history.proofs.Told.{Told, Balanced, goes, began}
use Rattle.history.proofs.Told.{ended as told-ended}
use Rattle.history.proofs.Events.{Quiet, not-zero, speaks, other, no_end, some_end, null-quiet, enter-says, exit-says, start-says}
use Rattle.history.proofs.Counts.{count-entered, count-exited}
use Rattle.history.proofs.Lives.{topped-live, popped-live, stored-live, pushed-live, ended-live, started-live, made, free-holds-nothing}

-- the line of an opcode is that of the table's number, or a later one
by_number : (Q : Line → Type 0) (n m : ℕ) (x y : Line) → (n ≡ m → Q x) → Q y → Q (cond (eqb n m) x y)
by_number Q n m x y p q = go (eqb n m) refl
  where
    go : (t : Bool) → eqb n m ≡ t → Q (cond t x y)
    go true e = p (eqb-true n m e)
    go false e = q

-- thread i of the state s: it is t, and meets the four bytes y
module _ (past : List Event) (s : State) (h : Told past s) (i : ℕ) (t : Thread) (y : Code) where
  -- the event of a step that was answered n
  abbrev ev : ℕ → Event
  ev n = event i (meeting t y) n

  -- so told after the step
  pub record Tells (r : Stepped) : Type 0 where
    pub tells : Told (ev r.answer ∷ past) r.state

  quiet : (n : ℕ) → y.opcode ≡ n → speaks n ≡ false → Quiet (ev 0)
  quiet n w = other (ev 0) n w

  -- an answer of 3 or more gives back the state as given, and counts for nothing
  gave-back : (n : ℕ) → 3 ≤ n → Tells (refused n s)
  gave-back n l =
      let q = not-zero (ev n) (ne_eqb n 0 (λ z. omega arith)) in
      record {
        tells = goes past s h (ev n) s q.no_start (no_end (ev n) (ne_eqb n 1 (λ z. omega arith)) (ne_eqb n 2 (λ z. omega arith))) h.threads_8 h.counts_256 (λ j k. refl)
            (λ j o k m. rw (q.no_enter o, q.no_exit o));
      }

  -- it is live
  module _ (li : i < 8) (lt : t.live ≡ true) (same : thread_at s i ≡ t) where
    -- thread i goes on, live
    lives-on : (u : Thread) → u.live ≡ true → (j : ℕ) → (thread_at s j).live ≡ (thread_at (with_thread s i u) j).live
    lives-on u a j = write-or (λ (v : Thread). (thread_at s j).live ≡ v.live) s.threads i j u idle refl (λ q. rw (q, same, lt, a))

    -- an event that counts for nothing: threads and counts are as they were, but for thread i, which goes on
    on : Quiet (ev 0) → (s' : State) → s'.threads ≡ s.threads → s'.counts ≡ s.counts → (u : Thread) → u.live ≡ true → (a : ℕ) → Tells (went_to s' i u a)
    on q s' f g u d a =
        record {
          tells = goes past s h (ev 0) (with_thread s' i (with_at u a)) q.no_start (no_end (ev 0) refl refl)
              (rw (f, length-set s.threads i (with_at u a)) h.threads_8) (rw g h.counts_256)
              (λ j k. rw f (lives-on (with_at u a) d j))
              (λ j o k m. rw (q.no_enter o, q.no_exit o, g));
        }

    pop-tells : Quiet (ev 0) → (n a : ℕ) → Tells (went_to s i (popped n t) a)
    pop-tells q n a = on q s refl refl (popped n t) (popped-live n t ∙ lt) a

    push-tells : Quiet (ev 0) → (x : Slot) (a : ℕ) → Tells (went_to s i (pushed t x) a)
    push-tells q x a = on q s refl refl (pushed t x) (pushed-live t x ∙ lt) a

    top-tells : Quiet (ev 0) → (x : Slot) (a : ℕ) → Tells (went_to s i (topped t x) a)
    top-tells q x a = on q s refl refl (topped t x) (topped-live t x ∙ lt) a

    store-tells : Quiet (ev 0) → (v : ℕ) (x : Slot) (a : ℕ) → Tells (went_to s i (popped 1 (stored t v x)) a)
    store-tells q v x a = on q s refl refl (popped 1 (stored t v x)) (popped-live 1 (stored t v x) ∙ stored-live t v x ∙ lt) a

    end-tells : (vars n : ℕ) → (n ≡ 1) ⊎ (n ≡ 2) → Tells (end_move s i t vars n)
    end-tells vars n k =
        let q = not-zero (ev n) (ne_eqb n 0 (λ z. ⊎_elim (λ w. omega arith) (λ w. omega arith) k)) in
        record {
          tells = told-ended past s h (ev n) i (ended vars t) (with_thread s i (ended vars t)) refl li q.no_start (some_end (ev n) k)
              q.no_enter q.no_exit (ended-live vars t) refl refl;
        }

    throw-tells : Quiet (ev 0) → (vars : ℕ) (a : Addr) (x : Slot) → Tells (throw_move s i t vars a x)
    throw-tells q vars a x =
        either Tells (eqb a.0 0) _ _ (λ e. end-tells vars 2 (inr refl))
        (λ e. on q s refl refl (caught t x) (pushed-live (popped t.depth t) x ∙ popped-live t.depth t ∙ lt) a.0)

    if-tells : Quiet (ev 0) → (a : Addr) → Tells (if_move s i t a)
    if-tells q a = either Tells (jumps (top_of t)) _ _ (λ e. pop-tells q 1 a.0) (λ e. pop-tells q 1 (t.at.0 + 1))

    new-tells : Quiet (ev 0) → (P : Program) (vars c : ℕ) (a : Addr) (fails : Bool) → Tells (new_move P s i t vars c a fails)
    new-tells q P vars c a fails =
        let m = made s c (first_fields (P.method c)) in
        either Tells (new_fails s fails) _ _ (λ e. throw-tells q vars a (ref_slot 0))
        (λ e. on q (with_object s c (first_fields (P.method c))) m.0 m.1 (pushed t (ref_slot s.objects)) (pushed-live t (ref_slot s.objects) ∙ lt) (t.at.0 + 1))

    get_tells : Quiet (ev 0) → (vars f : ℕ) (a : Addr) → Tells (get_move s i t vars f a)
    get_tells q vars f a = either Tells (is_null (top_of t)) _ _ (λ e. throw-tells q vars a (ref_slot 0)) (λ e. top-tells q _ (t.at.0 + 1))

    put-tells : Quiet (ev 0) → (vars f : ℕ) (a : Addr) → Tells (put_move s i t vars f a)
    put-tells q vars f a =
        either Tells (is_null (from_top t 1)) _ _ (λ e. throw-tells q vars a (ref_slot 0))
        (λ e. on q (with_field s _ f (top_of t)) refl refl (popped 2 t) (popped-live 2 t ∙ lt) (t.at.0 + 1))

    -- the object that a variable in use refers to
    module _ (P : Program) (g : Belongs P s) (p : Placed P s.objects t) (lv : y.operand < (P.method t.class).vars) where
      abbrev o : ℕ
      o = lock_of t (var y.operand)

      abbrev n : ℕ
      n = count_of s.counts i (lock_of t (var y.operand))

      known : is_ref (var_of t y.operand) ≡ true → o < 32
      known e = omega (arith, refers-object s.objects (var_of t y.operand) (p.variable_refers y.operand lv) e, g.objects_32)

      -- a count of thread i moved, and the event says so
      moved : (m : ℕ) → starts (ev 0) ≡ false → Balanced (ev 0) s.counts (set s.counts (i * 32 + o) m) → Tells (counted s i t o m)
      moved m f b =
          record {
            tells = goes past s h (ev 0) (with_thread (with_count s i o m) i (with_at t (t.at.0 + 1))) f (no_end (ev 0) refl refl)
                (rw (length-set s.threads i (with_at t (t.at.0 + 1))) h.threads_8) (rw (length-set s.counts (i * 32 + o) m) h.counts_256)
                (λ j k. lives-on (with_at t (t.at.0 + 1)) lt j) b;
          }

      entered : y.opcode ≡ 7 → is_ref (var_of t y.operand) ≡ true → Balanced (ev 0) s.counts (set s.counts (i * 32 + o) (n + 1))
      entered w e j q l k =
          let f = enter-says i t y w e q in
          rw (f.1, f.2, and-false (eqb i j)) (count-entered s.counts h.counts_256 i o li (known e) j q l k)

      exited : y.opcode ≡ 8 → is_ref (var_of t y.operand) ≡ true → 0 < n → Balanced (ev 0) s.counts (set s.counts (i * 32 + o) (n - 1))
      exited w e z j q l k =
          let f = exit-says i t y w e q in
          rw (f.1, f.2, and-false (eqb i j)) (count-exited s.counts h.counts_256 i o li (known e) z j q l k)

      enter-tells : y.opcode ≡ 7 → (vars limit : ℕ) (a : Addr) → enter_fault s.counts i t (var y.operand) limit a ≡ 0
          → Tells (enter_move s i t vars (var y.operand) a)
      enter-tells w vars limit a f =
          either Tells (is_null (var_of t y.operand)) _ _ (λ e. throw-tells (null-quiet i t y w e) vars a (ref_slot 0))
          (λ e. let r = a-ref (var_of t y.operand) (tested _ _ _ f).0 e in moved (n + 1) (enter-says i t y w r 0).0 (entered w r))

      exit-tells : y.opcode ≡ 8 → exit_fault s.counts i t (var y.operand) ≡ 0 → Tells (exit_move s i t (var y.operand))
      exit-tells w f =
          let e = tested _ _ _ f in
          moved (n - 1) (exit-says i t y w e.0 0).0 (exited w e.0 (ltb-true 0 n (tested _ _ _ e.1).0))

    -- a started thread holds nothing: its number was free
    start-tells : y.opcode ≡ 10 → (P : Program) → Belongs P s → (args c : ℕ) → start_wait s ≡ 0 → Tells (start_move s i t args c)
    start-tells w P g args c f = record { tells = at (ltb-true (lowest_free s) 8 (tested _ _ _ f).0) }
      where
        j : ℕ
        j = lowest_free s

        new : Thread
        new = started (thread_at s j) t c args

        starter : Thread
        starter = with_at (popped (args + 1) t) (t.at.0 + 1)

        starter-lives : (get_or (set s.threads j new) i idle).live ≡ true
        starter-lives = write-or (λ (u : Thread). u.live ≡ true) s.threads j i new idle (rw same lt) (λ q. started-live (thread_at s j) t c args)

        still : (k : ℕ) → (get_or (set s.threads j new) k idle).live ≡ (thread_at (with_thread (with_thread s j new) i starter) k).live
        still k =
            write-or (λ (u : Thread). (get_or (set s.threads j new) k idle).live ≡ u.live) (set s.threads j new) i k starter idle refl
            (λ q. rw q (starter-lives ∙ sym (popped-live (args + 1) t ∙ lt)))

        at : lowest_free s < 8 → Told (ev 0 ∷ past) (with_thread (with_thread s j new) i starter)
        at l =
            let e = start-says i t y w in
            began past s h (ev 0) j new (with_thread (with_thread s j new) i starter) refl l e.0 e.1 e.2 (started-live (thread_at s j) t c args)
            (rw (length-set (set s.threads j new) i starter, length-set s.threads j new) h.threads_8) refl (λ k b. still k) (free-holds-nothing P s g l)

    -- line by line of the table
    module _ (P : Program) (g : Belongs P s) (p : Placed P s.objects t) (fails : Bool) where
      abbrev m : Method
      m = P.method t.class

      record Arm (x : Line) : Type 0 where
        tells : InstructionFits P.classes (λ d. (P.method d).fields) m.vars m.code t.at.0 (x.instruction y.operand y.address)
            → fault_of P s i t m fails (x.instruction y.operand y.address) ≡ 0 → wait_of s i t (x.instruction y.operand y.address) ≡ 0
            → Tells (move_of P s i t m fails (x.instruction y.operand y.address))

      by : (n : ℕ) {x z : Line} → (y.opcode ≡ n → Arm x) → Arm z → Arm (cond (eqb y.opcode n) x z)
      by n {x} {z} = by_number Arm y.opcode n x z

      move-tells : Arm (line_of y.opcode)
      unfolding line_of table find
      move-tells =
          by 1 (λ w. record { tells = λ e f z. top-tells (quiet 1 w refl) (inc_slot (top_of t)) _ })
          (by 2 (λ w. record { tells = λ e f z. pop-tells (quiet 2 w refl) 1 _ })
          (by 3 (λ w. record { tells = λ e f z. push-tells (quiet 3 w refl) zero_slot _ })
          (by 4 (λ w. record { tells = λ e f z. push-tells (quiet 4 w refl) (var_of t y.operand) _ })
          (by 5 (λ w. record { tells = λ e f z. store-tells (quiet 5 w refl) y.operand (top_of t) _ })
          (by 6 (λ w. record { tells = λ e f z. if-tells (quiet 6 w refl) (addr y.address) })
          (by 7 (λ w. record { tells = λ e f z. enter-tells P g p e.0 w m.vars m.limit (addr y.address) f })
          (by 8 (λ w. record { tells = λ e f z. exit-tells P g p e.0 w f })
          (by 9 (λ w. record { tells = λ e f z. new-tells (quiet 9 w refl) P m.vars y.operand (addr y.address) fails })
          (by 10 (λ w. record { tells = λ e f z. start-tells w P g (P.method y.operand).args y.operand z })
          (by 11 (λ w. record { tells = λ e f z. throw-tells (quiet 11 w refl) m.vars (addr y.address) (top_of t) })
          (by 12 (λ w. record { tells = λ e f z. end-tells m.vars 1 (inl refl) })
          (by 13 (λ w. record { tells = λ e f z. get_tells (quiet 13 w refl) m.vars (y.operand % 4) (addr y.address) })
          (by 14 (λ w. record { tells = λ e f z. put-tells (quiet 14 w refl) m.vars (y.operand % 4) (addr y.address) })
          (record { tells = λ e f z. absurd e }))))))))))))))

-- THEOREM: every step tells
pub after-told : (b : List ℕ) (past : List Event) (s : State) → Told past s → (x : Step) → Told (event_of b s x ∷ past) (after b s x)
after-told b past s h x =
    (step_by (Tells past s h i T (instruction_met b T)) b s i x.fails (gave-back past s h i T (instruction_met b T)) go).tells
  where
    i : ℕ
    i = x.who

    T : Thread
    T = thread_at s i

    go : Moving b s i x.fails → Tells past s h i T (instruction_met b T) (move_of (program_of b) s i T (method_here b s i) x.fails (instruction_here b s i))
    go k =
        let p = k.belongs.live_placed i k.thread_8 k.live in
        let e = k.formed.table T.class T.at.0 p.class_known p.address_first p.address_last in
        rw (met-live b s i k.live, ← met_runs b s i)
        ((move-tells past s h i T (code_here b T) k.thread_8 k.live refl (program_of b) k.belongs p x.fails).tells
        (rw (met_runs b s i) e) (rw (met_runs b s i) k.no_fault) (rw (met_runs b s i) k.no_wait))
