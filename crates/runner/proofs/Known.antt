-- What is known where a live thread takes its step: soundness says that it draws no fault, so the step is its wait or its move.
use mathlib.Core.List.{List}
use mathlib.Core.Path.{◌≡◌, refl, sym, ap, subst, ◌∙◌}
use mathlib.Core.Bool.{Bool, true, false, ◌&&◌}
use Prim.Native.Nat.{ℕ, ◌+◌, ◌*◌, ◌-◌, ◌<◌, ◌≤◌}
use lib.Dec.{ltb}
use lib.ListN.{length, get_or}
use native.Mathlib.Omega.{arith}
use borrow.Author.Tests.{lt-ltb, eq-eqb}
use Rattle.ground.specs.Chain.{refuse}
use Rattle.ground.proofs.Chain.{went_on_lem}
use Rattle.ground.proofs.Chain.{refused as stopped}
use Rattle.instructions.specs.declared.Instruction.{Instruction}
use Rattle.instructions.specs.Table.{decoded}
use Rattle.instructions.proofs.Table.{InstructionFits}
use Rattle.bundle.specs.Container.{class_at, descriptor_count, record_fits, code_from}
use Rattle.bundle.specs.Program.{Method, Program, method_of, method_at, program_of}
use Rattle.structure.specs.Structure.{structure_of}
use Rattle.structure.proofs.Structured.{WellFormed, lengths, extents}
use Rattle.rows.specs.Typed.{typed_of}
use Rattle.verifier.proofs.FirstBroken.{agrees_back}
use Rattle.threads.specs.declared.Thread.{Thread}
use Rattle.threads.specs.Threads.{idle}
use Rattle.state.specs.declared.State.{State}
use Rattle.state.specs.State.{count_of, class_of}
use Rattle.state.specs.State.{thread_at as thread_of}
use Rattle.belongs.specs.Belongs.{state_ok}
use Rattle.belongs.proofs.Belongs.{Placed}
use Rattle.turns.specs.Stepped.{Stepped}
use Rattle.turns.specs.Answers.{test, unless_drawn}
use Rattle.turns.specs.Faults.{fault_of}
use Rattle.turns.specs.Waits.{wait_of}
use Rattle.turns.specs.Moves.{move_of}
use Rattle.turns.specs.Exec.{run_of}
use Rattle.machine.specs.Machine.{readable, step_of}
use Rattle.soundness.proofs.Accepted.{Accepted}
use Rattle.soundness.specs.Invariant.{Live}
use Rattle.soundness.proofs.Invariant.{placed, vars_16, limit_16, depth_limit, state-ok}
use Rattle.soundness.proofs.Verified.{accepted as judged}
use Rattle.soundness.proofs.Steps.{no_fault}
use Rattle.memory.specs.declared.Frame.{Frame}
use Rattle.memory.specs.Frames.{Sixteen, live_in, class_in, address_in, depth_in, thread_in}
use Rattle.memory.proofs.Tab.{tab-at}
use Rattle.runner.specs.declared.table.Row.{Row}
use Rattle.runner.specs.Table.{row_of}
use Rattle.runner.specs.declared.running.Memory.{Memory}
use Rattle.runner.specs.Memory.{frame_of, thread_from, state_from}
use Rattle.runner.specs.Poised.{Running, Poised, Turned}
use Rattle.runner.proofs.Places.{code-within, instruction-there}

-- ---- tests that draw nothing
pub test-holds : (ok : Bool) (n rest : ℕ) → 1 ≤ n → test ok n rest ≡ 0 → ok ≡ true
unfolding refuse
test-holds true n rest l e = refl
test-holds false n rest l e = absurd (omega arith)

pub test-rest : (ok : Bool) (n rest : ℕ) → 1 ≤ n → test ok n rest ≡ 0 → rest ≡ 0
unfolding refuse
test-rest true n rest l e = e
test-rest false n rest l e = absurd (omega arith)

pub none-drawn : (n : ℕ) (s : State) (rest : Stepped) → n ≡ 0 → unless_drawn n s rest ≡ rest
unfolding unless_drawn refuse
none-drawn n s rest e = rw e

module _ (b : List ℕ) (table : List Row) (m : Memory) (u : Running b table m) where
  can-read : readable b ≡ true
  can-read = eq-eqb (structure_of b).number 0 (agrees_back b u.accepted)

  pub accepts : Accepted (typed_of b)
  accepts = judged b u.accepted

  belongs-here : state_ok (program_of b) (state_from m) ≡ true
  belongs-here = state-ok (typed_of b) accepts (state_from m) u.inv

  pub thread-is : (i : ℕ) → i < 8 → thread_of (state_from m) i ≡ thread_in (frame_of m.frames i)
  thread-is i l = tab-at 8 (thread_from m.frames) i idle l

  pub row_is : (c : ℕ) (d : Row) → c < 8 → get_or table c d ≡ row_of b c
  row_is c d l = rw u.tabled (tab-at 8 (row_of b) c d l)

  -- a thread that isn't live rests
  pub rests : (i : ℕ) → i < 8 → (fails : Bool) → live_in (frame_of m.frames i) ≡ false → Turned b m m 5 i fails
  unfolding step_of
  rests i l fails e =
      record { sized = u.sized; step = sym (went_on_lem _ _ can-read ∙ went_on_lem _ _ belongs-here ∙ stopped _ _ sleeping) }
    where
      sleeping : (ltb i 8 && (thread_of (state_from m) i).live) ≡ false
      sleeping = rw (lt-ltb i 8 l, thread-is i l, e)

module _ (b : List ℕ) (table : List Row) (m : Memory) (i : ℕ) (z : Poised b table m i) where
  abbrev pub P : Program
  P = program_of b

  abbrev pub S : State
  S = state_from m

  abbrev pub F : Frame
  F = frame_of m.frames i

  abbrev pub T : Thread
  T = thread_in (frame_of m.frames i)

  abbrev pub M : Method
  M = (program_of b).method (class_in (frame_of m.frames i))

  abbrev pub X : Instruction
  X = ((program_of b).method (class_in (frame_of m.frames i))).instruction (address_in (frame_of m.frames i))

  abbrev A : Accepted (typed_of b)
  A = accepts b table m z.running

  here-is : thread_of S i ≡ T
  here-is = thread-is b table m z.running i z.thread_8

  awake : (thread_of S i).live ≡ true
  awake = subst (λ (t : Thread). t.live ≡ true) (sym here-is) z.live

  alive : Live (typed_of b) m.objects (class_of S) (count_of m.counts i) T
  alive = subst (λ (t : Thread). Live (typed_of b) m.objects (class_of S) (count_of m.counts i) t) here-is ((z.running.inv.thread i z.thread_8).live awake)

  -- THEOREM: it draws no fault
  pub no-fault-here : (fails : Bool) → fault_of P S i T M fails X ≡ 0
  unfolding program_of
  no-fault-here fails =
      subst (λ (t : Thread). fault_of P S i t (P.method t.class) fails ((P.method t.class).instruction t.at.0) ≡ 0) here-is
      (no_fault (typed_of b) A S z.running.inv i z.thread_8 awake fails)

  -- THEOREM: its step waits, or is its move
  pub step_is : (fails : Bool) → step_of b S i fails ≡ unless_drawn (wait_of S i T X) S (move_of P S i T M fails X)
  unfolding step_of run_of
  step_is fails =
      went_on_lem _ _ (can-read b table m z.running) ∙ went_on_lem _ _ (belongs-here b table m z.running)
      ∙ went_on_lem _ _ (rw (lt-ltb i 8 z.thread_8) awake)
      ∙ ap (λ (t : Thread). run_of P S i t fails) here-is
      ∙ none-drawn _ S _ (no-fault-here fails)

  known-class : class_in F < P.classes
  known-class = alive.address.class_known

  pub class_8 : class_in F < 8
  class_8 = omega (arith, known-class, A.formed.few_classes)

  pub formed : WellFormed P
  formed = A.formed

  pub few-vars : M.vars ≤ 16
  few-vars = vars_16 (typed_of b) A m.objects (class_of S) (count_of m.counts i) T alive

  pub few-places : M.limit ≤ 16
  few-places = limit_16 (typed_of b) A m.objects (class_of S) (count_of m.counts i) T alive

  pub depth-16 : depth_in F ≤ 16
  depth-16 = omega (arith, few-places, depth_limit (typed_of b) A m.objects (class_of S) (count_of m.counts i) T alive)

  pub short-code : M.code ≤ 256
  short-code = A.formed.code_256 (class_in F) known-class

  pub address_first : 1 ≤ address_in F
  address_first = alive.address.first

  pub address-256 : address_in F ≤ 256
  address-256 = omega (arith, alive.address.last, short-code)

  pub next_fits : address_in F + 1 < 65536
  next_fits = omega (arith, address-256)

  pub frame_16 : Sixteen F
  frame_16 = z.running.sized.frame_16 i z.thread_8

  pub placed-here : Placed P m.objects T
  placed-here = placed (typed_of b) A m.objects (class_of S) (count_of m.counts i) T alive

  pub fits : InstructionFits P.classes (λ d. (P.method d).fields) M.vars M.code (address_in F) X
  fits = A.formed.table (class_in F) (address_in F) known-class alive.address.first alive.address.last

  -- ---- what the table says of the thread's class, and of a class that is started
  pub vars-are : (d : Row) → (get_or table (class_in F) d).vars ≡ M.vars
  unfolding program_of method_at method_of
  vars-are d = ap (λ (r : Row). r.vars) (row_is b table m z.running (class_in F) d class_8)

  pub args_are : (c : ℕ) (d : Row) → c < P.classes → (get_or table c d).args ≡ (P.method c).args
  unfolding program_of method_at method_of
  args_are c d l = ap (λ (r : Row). r.args) (row_is b table m z.running c d (omega (arith, A.formed.few_classes)))

  code-starts : (d : Row) → (get_or table (class_in F) d).code ≡ (class_at b (class_in F)).offset + descriptor_count (class_at b (class_in F))
  code-starts d = ap (λ (r : Row). r.code) (row_is b table m z.running (class_in F) d class_8)

  lies : record_fits b (class_at b (class_in F)) ≡ true
  unfolding program_of
  lies = extents b (agrees_back b z.running.accepted) (class_in F) known-class

  in_code : address_in F ≤ (class_at b (class_in F)).code
  unfolding program_of method_at method_of
  in_code = alive.address.last

  pub code_read : (d : Row) → (get_or table (class_in F) d).code + 4 * (address_in F - 1) + 3 < length b
  code_read d = rw (code-starts d) (code-within b (class_at b (class_in F)) (address_in F) lies address_first in_code)

  -- no place of the bundle is large
  pub place-small : (d : Row) → (get_or table (class_in F) d).code + 4 * (address_in F - 1) < 18446744073709551616
  place-small d = omega (arith, code_read d, (lengths b (agrees_back b z.running.accepted)).1)

  pub instruction-here : (d : Row) → decoded (code_from b ((get_or table (class_in F) d).code + 4 * (address_in F - 1))) ≡ X
  instruction-here d = rw (code-starts d) (instruction-there b (class_in F) (address_in F) lies address_first in_code)
