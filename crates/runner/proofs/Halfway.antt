-- The loop over a schedule: what is still to come, from where it stands, gives what the whole list gives.
use mathlib.Core.List.{List, [], ◌∷◌}
use mathlib.Core.Path.{◌≡◌, refl, sym, ap, subst, ◌∙◌}
use mathlib.Core.Bool.{Bool, true, false, cond}
use Prim.Native.Nat.{ℕ, ◌+◌, ◌%◌, ◌<◌, ◌≤◌}
use lib.Dec.{leb}
use lib.ListN.{length, get_or, drop, set, replicate, get_or-replicate}
use lib.Seq.{drop-cons, drop-length}
use native.Mathlib.Numerals.{add-one}
use native.Mathlib.Omega.{arith}
use borrow.Author.Tests.{eq-eqb, ne_eqb}
use Rattle.ground.specs.Bytes.{at}
use Rattle.ground.specs.Chain.{refuse}
use Rattle.ground.proofs.Chain.{went_on_lem}
use Rattle.ground.proofs.Chain.{refused as stopped}
use Rattle.bundle.specs.Container.{exception}
use Rattle.bundle.specs.Program.{method_at, program_of}
use Rattle.verdicts.specs.declared.Verdict.{Verdict}
use Rattle.verdicts.specs.declared.Refusal.{Refusal}
use Rattle.verdicts.specs.declared.Refusal.TheVariants.{Length, Trailer, Directory, Limits, Extent, Descriptors, Instruction, Form, Rule, FirstRow, NoPairs, Overlap, Room, Order, Levels, Given}
use Rattle.verdicts.specs.Verdicts.{verdict}
use Rattle.verdicts.specs.Numbers.{numbers}
use Rattle.structure.specs.Structure.{structure_of}
use Rattle.structure.proofs.Structured.{some-classes, exception-class}
use Rattle.rows.specs.Typed.{typed_of}
use Rattle.verifier.specs.Verdict.{verdict_of}
use Rattle.verifier.proofs.FirstBroken.{agrees_back}
use Rattle.values.specs.declared.Slot.{Slot}
use Rattle.threads.specs.declared.Thread.{Thread}
use Rattle.state.specs.declared.State.{State}
use Rattle.state.specs.State.{fields_with, empty_state}
use Rattle.turns.specs.Stepped.{Stepped}
use Rattle.turns.specs.Moves.{first_fields}
use Rattle.machine.specs.Machine.{main_thread, readable, fresh_state, fresh_of}
use Rattle.machine.specs.Runs.{answer, after, run, reached}
use Rattle.soundness.proofs.Verified.{accepted as judged}
use Rattle.soundness.specs.Invariant.{Inv}
use Rattle.soundness.proofs.Fresh.{inv-fresh}
use Rattle.soundness.proofs.Demand3.{inv-after}
use Rattle.memory.specs.Tab.{tab}
use Rattle.memory.specs.Words.{slot_of}
use Rattle.memory.specs.declared.Frame.{Frame}
use Rattle.memory.specs.Frames.{Sixteen, empty_frame, thread_in, begun_in}
use Rattle.memory.proofs.Tab.{tab-at}
use Rattle.runner.specs.declared.table.Row.{Row}
use Rattle.runner.specs.Run.{step_in, steps_in, taken, refused_by, ran_of}
use Rattle.runner.specs.Table.{row_of}
use Rattle.runner.specs.declared.running.Memory.{Memory}
use Rattle.runner.specs.Memory.{memory, no_frame, frame_of, framed, thread_from, slot_from, state_from, Sized}
use Rattle.runner.specs.Objects.{fields_in, added_in}
use Rattle.runner.specs.Poised.{Running, Turned}
use Rattle.runner.proofs.Stores.{threads-set, sized_set, fields_made, sized-made, object-made}

pub record Halfway (b xs : List ℕ) (table : List Row) (m : Memory) (steps n : ℕ) : Type 0 where
  pub running : Running b table m
  pub last_state : run b (state_from m) (steps_in (drop n xs)) ≡ reached b (steps_in xs)
  pub number : steps + taken b (state_from m) (steps_in (drop n xs)) ≡ taken b (fresh_of b).state (steps_in xs)
  pub bound : steps ≤ n

-- ---- the fresh machine
abbrev none : List Frame
none = replicate 8 empty_frame

abbrev born : Frame
born = begun_in empty_frame (replicate 16 0) 0

empty-threads : tab 8 (thread_from none) ≡ empty_state.threads
unfolding tab slot_of
empty-threads = refl

empty-fields : tab 128 (slot_from (replicate 128 0)) ≡ empty_state.fields
unfolding tab slot_of
empty-fields = refl

born-main : thread_in born ≡ main_thread
unfolding tab slot_of
born-main = refl

frames-short : (i : ℕ) → i < 8 → Sixteen (frame_of none i)
frames-short i l = rw (get_or-replicate 8 i empty_frame no_frame l) (record { vars_16 = refl; stack_16 = refl })

-- an accepted bundle
pub number-0 : (b : List ℕ) (n : ℕ) → verdict 0 n 0 ≡ verdict_of b → (verdict_of b).number ≡ 0
number-0 b n e = sym (ap (λ (v : Verdict). v.number) e)

module _ (b : List ℕ) (e : (verdict_of b).number ≡ 0) where
  pub exception-8 : exception b < 8
  exception-8 = omega (arith, exception-class b (agrees_back b e), (some-classes b (agrees_back b e)).1)

  abbrev firsts : List ℕ
  firsts = fields_in (replicate 128 0) 0 (row_of b (exception b)).first

  abbrev start : Memory
  start = memory (set none 0 born) (replicate 256 0) (replicate 8 0) 1 (set (replicate 32 0) 0 (exception b)) firsts

  start-sized : Sized start.frames start.fields
  start-sized =
      sized_set none 0 born refl (omega arith) firsts
      (sized-made b (exception b) 0 (replicate 128 0) refl (omega arith) none (record { frames_8 = refl; frame_16 = frames-short; fields_128 = refl })) (record { vars_16 = refl; stack_16 = refl })

  fresh-memory : state_from start ≡ fresh_state (program_of b)
  unfolding program_of
  fresh-memory =
      ap (λ (ts : List Thread). record {
        threads = ts;
        counts = replicate 256 0;
        objects = 1;
        classes = set (replicate 32 0) 0 (exception b);
        fields = tab 128 (slot_from firsts);
        held = replicate 8 0;
      })
      (threads-set none 0 born refl (omega arith) main_thread born-main ∙ ap (λ (ts : List Thread). set ts 0 main_thread) empty-threads)
      ∙ ap (λ (fs : List Slot). record {
        threads = set empty_state.threads 0 main_thread;
        counts = replicate 256 0;
        objects = 1;
        classes = set (replicate 32 0) 0 (exception b);
        fields = fs;
        held = replicate 8 0;
      })
      (fields_made b (exception b) 0 (replicate 128 0) refl (omega arith) ∙ ap (λ (fs : List Slot). fields_with fs 0 (first_fields (method_at b (exception b)))) empty-fields)
      ∙ ap (λ (s : State). record {
        threads = set s.threads 0 main_thread;
        counts = s.counts;
        objects = s.objects;
        classes = s.classes;
        fields = s.fields;
        held = s.held;
      })
      (object-made empty_state (exception b) (first_fields (method_at b (exception b))) (omega arith))

  fresh-state : (fresh_of b).state ≡ fresh_state (program_of b)
  unfolding fresh_of refuse
  fresh-state = let r : readable b ≡ true = eq-eqb (structure_of b).number 0 (agrees_back b e) in rw r

  from_zero : (m n : ℕ) → m ≡ n → 0 + m ≡ n
  from_zero m n q = omega arith

  fresh-begins : (xs : List ℕ) (table : List Row) → table ≡ tab 8 (row_of b) → Halfway b xs table start 0 0
  unfolding program_of
  fresh-begins xs table t =
      let q : state_from start ≡ (fresh_of b).state = fresh-memory ∙ sym fresh-state in
      record {
        running = record {
          accepted = e;
          tabled = t;
          sized = start-sized;
          inv = subst (λ (s : State). Inv (typed_of b) s) (sym fresh-memory) (inv-fresh (typed_of b) (judged b e));
        };
        last_state = ap (λ (s : State). run b s (steps_in xs)) q;
        number = from_zero _ _ (ap (λ (s : State). taken b s (steps_in xs)) q);
        bound = omega arith;
      }

  abbrev empty : Memory
  empty = memory none (replicate 256 0) (replicate 8 0) 0 (replicate 32 0) (replicate 128 0)

  abbrev with_thrown : ℕ → Row → Memory
  with_thrown c row = memory none (replicate 256 0) (replicate 8 0) 1 (set (replicate 32 0) 0 c) (fields_in (replicate 128 0) 0 row.first)

  -- as the code lays it: the thrown object first, and thread 0
  pub begins : (xs : List ℕ) (table : List Row) → table ≡ tab 8 (row_of b) → (c : ℕ) (d : Row) → c ≡ exception b → (m : Memory) (p : Frame)
      → m ≡ added_in empty c (get_or table c d).first → p ≡ begun_in (frame_of m.frames 0) (replicate 16 0) 0 → Halfway b xs table (framed m 0 p) 0 0
  unfolding added_in
  begins xs table t c d ec m p em ep =
      let r : get_or table c d ≡ row_of b (exception b) = rw (ec, t) (tab-at 8 (row_of b) (exception b) d exception-8) in
      let h : m ≡ with_thrown (exception b) (row_of b (exception b)) = em ∙ ap (λ (x : ℕ). with_thrown x (get_or table c d)) ec ∙ ap (with_thrown (exception b)) r in
      subst (λ (p : Frame). Halfway b xs table (framed m 0 p) 0 0) (sym ep)
      (subst (λ (y : Memory). Halfway b xs table (framed y 0 (begun_in (frame_of y.frames 0) (replicate 16 0) 0)) 0 0) (sym h) (fresh-begins xs table t))

-- ---- a turn
steps_next : (xs : List ℕ) (n : ℕ) → n < length xs → steps_in (drop n xs) ≡ step_in (at xs n) ∷ steps_in (drop (n + 1) xs)
unfolding steps_in
steps_next xs n l = rw (drop-cons xs n 0 l, add-one)

counted-one : (n : ℕ) → cond (leb n 2) 1 0 ≤ 1
counted-one n = go (leb n 2)
  where
    go : (t : Bool) → cond t 1 0 ≤ 1
    go true = omega arith
    go false = omega arith

module _ (b xs : List ℕ) (table : List Row) (m : Memory) (steps n : ℕ) (w : Halfway b xs table m steps n) (l : n < length xs) (m' : Memory) (x steps' : ℕ)
    (t : Turned b m m' x (at xs n % 8) (leb 128 (at xs n))) (q : steps' ≡ steps + cond (leb x 2) 1 0) where
  state-is : state_from m' ≡ after b (state_from m) (step_in (at xs n))
  state-is = ap (λ (r : Stepped). r.state) t.step

  answer-is : x ≡ answer b (state_from m) (step_in (at xs n))
  answer-is = ap (λ (r : Stepped). r.answer) t.step

  rest-state : run b (state_from m) (steps_in (drop n xs)) ≡ run b (after b (state_from m) (step_in (at xs n))) (steps_in (drop (n + 1) xs))
  unfolding run
  rest-state = rw (steps_next xs n l)

  rest-taken : taken b (state_from m) (steps_in (drop n xs))
      ≡ cond (leb (answer b (state_from m) (step_in (at xs n))) 2) 1 0 + taken b (after b (state_from m) (step_in (at xs n))) (steps_in (drop (n + 1) xs))
  unfolding taken
  rest-taken = rw (steps_next xs n l)

  -- the same, of the state and the answer that the turn gave
  rest-number : taken b (state_from m) (steps_in (drop n xs)) ≡ cond (leb x 2) 1 0 + taken b (state_from m') (steps_in (drop (n + 1) xs))
  rest-number =
      rest-taken ∙ ap (λ (y : ℕ). cond (leb y 2) 1 0 + taken b (after b (state_from m) (step_in (at xs n))) (steps_in (drop (n + 1) xs))) (sym answer-is)
      ∙ ap (λ (s : State). cond (leb x 2) 1 0 + taken b s (steps_in (drop (n + 1) xs))) (sym state-is)

  pub goes_on : Halfway b xs table m' steps' (n + 1)
  goes_on =
      record {
        running = record {
          accepted = w.running.accepted;
          tabled = w.running.tabled;
          sized = t.sized;
          inv = subst (λ (s : State). Inv (typed_of b) s) (sym state-is) (inv-after b w.running.accepted (state_from m) w.running.inv (step_in (at xs n)));
        };
        last_state = ap (λ (s : State). run b s (steps_in (drop (n + 1) xs))) state-is ∙ sym rest-state ∙ w.last_state;
        number = omega (arith, w.number, rest-number);
        bound = omega (arith, w.bound, counted-one x);
      }

-- ---- the end
pub arrives : (b xs : List ℕ) (table : List Row) (m : Memory) (steps n : ℕ) → Halfway b xs table m steps n → n ≡ length xs
    → (state_from m ≡ reached b (steps_in xs)) × (steps ≡ taken b (fresh_of b).state (steps_in xs))
unfolding run taken steps_in
arrives b xs table m steps n w e =
    let d : drop n xs ≡ [] = rw e (drop-length xs) in
    (rw d at w.last_state, omega (arith, rw d at w.number))

pub ran-accepted : (b xs : List ℕ) (n : ℕ) → verdict 0 n 0 ≡ verdict_of b
    → record { answer = 0; verdict = verdict 0 n 0; state = reached b (steps_in xs); steps = taken b (fresh_of b).state (steps_in xs) } ≡ ran_of b xs
unfolding ran_of
ran-accepted b xs n e = rw e (sym (went_on_lem _ _ (eq-eqb (verdict_of b).number 0 (number-0 b n e))))

-- no refusal has the number 0
refused-number : (r : Refusal) → 1 ≤ (numbers r).number
refused-number Length = omega arith
refused-number Trailer = omega arith
refused-number Directory = omega arith
refused-number (Limits c) = omega arith
refused-number (Extent c) = omega arith
refused-number (Descriptors c) = omega arith
refused-number (Instruction c l) = omega arith
refused-number (Form c l) = omega arith
refused-number (Rule c l w) = omega arith
refused-number (FirstRow c) = omega arith
refused-number NoPairs = omega arith
refused-number Overlap = omega arith
refused-number Room = omega arith
refused-number (Order c l) = omega arith
refused-number Levels = omega arith
refused-number Given = omega arith

pub ran-refused : (b xs : List ℕ) (r : Refusal) → numbers r ≡ verdict_of b → refused_by (numbers r) ≡ ran_of b xs
unfolding ran_of
ran-refused b xs r q =
    let n : 1 ≤ (numbers r).number = refused-number r in
    rw q (sym (stopped _ _ (ne_eqb (verdict_of b).number 0 (let k : 1 ≤ (verdict_of b).number = rw q at n in omega arith))))
