-- Every instruction of a live thread, under its line of the table and its rule, is fine: it draws no fault, and its move is a good step. A new instruction has its line here.
use Prim.Native.Nat.{ℕ, ◌+◌, ◌≤◌, ◌<◌}
use mathlib.Core.Path.{◌≡◌, refl}
use mathlib.Core.Logic.{◌≢◌}
use mathlib.Core.Bool.{Bool, true, false, cond}
use native.Mathlib.Omega.{arith}
use lib.Dec.{ltb}
use Rattle.ground.specs.Chain.{refuse}
use Rattle.instructions.specs.declared.Var.{Var}
use Rattle.instructions.specs.declared.Instruction.{Instruction}
use Rattle.instructions.specs.declared.Instruction.TheVariants.{Inc, Pop, Push0, Load, Store, If, Enter, Exit, New, Start, Throw, Return, Get, Put, Nothing}
use Rattle.instructions.proofs.Table.{InstructionFits}
use Rattle.bundle.specs.Program.{Address}
use Rattle.rows.specs.Typed.{Typed}
use Rattle.rules.specs.Rule.{rule_holds}
use Rattle.rules.specs.Rules.{rule_of}
use Rattle.values.specs.Values.{is_null, object_of}
use Rattle.threads.specs.declared.Thread.{Thread}
use Rattle.threads.specs.Threads.{var_of}
use Rattle.state.specs.declared.State.{State}
use Rattle.state.specs.State.{thread_at, count_of, others_free, lowest_free}
use Rattle.turns.specs.Answers.{refused, test}
use Rattle.turns.specs.Faults.{lock_of, fault_of}
use Rattle.turns.specs.Waits.{wait_of}
use Rattle.turns.specs.Moves.{move_of}
use Rattle.turns.specs.Exec.{run_of}
use Rattle.machine.proofs.Refusals.{draws}
use Rattle.soundness.specs.Invariant.{Inv}
use Rattle.soundness.proofs.Accepted.{Accepted}
use Rattle.soundness.proofs.Moves.{Good, given, Fine}
use Rattle.soundness.proofs.Stack.{inc-fine, pop-fine, push0-fine, load-fine, store-fine, if-fine}
use Rattle.soundness.proofs.Locks.{enter-fine, exit-fine, leaves_held}
use Rattle.soundness.proofs.Ends.{athrow-fine, return-fine}
use Rattle.soundness.proofs.Makes.{new-fine}
use Rattle.soundness.proofs.Starts.{start_fine}
use Rattle.soundness.proofs.Fields.{get-fine, put-fine}

module _ (P : Typed) (A : Accepted P) (s : State) (inv : Inv P s) (i : ℕ) (li : i < 8) (lv : (thread_at s i).live ≡ true) where
  abbrev T : Thread
  T = thread_at s i

  abbrev C : ℕ
  C = (thread_at s i).class

  abbrev L : ℕ
  L = (thread_at s i).at.0

  abbrev vars : ℕ
  vars = (P.program.method (thread_at s i).class).vars

  abbrev code : ℕ
  code = (P.program.method (thread_at s i).class).code

  here : Address P.program C L
  here = ((inv.thread i li).live lv).address

  next : L < code → Address P.program C (L + 1)
  next h = record { class_known = here.class_known; first = omega arith; last = omega arith }

  exec-fine : (fails : Bool) (x : Instruction) → InstructionFits P.program.classes (λ d. (P.program.method d).fields) vars code L x → rule_holds vars (rule_of P.program vars (P.row C) L x) ≡ true
      → Fine P s i (fault_of P.program s i T (P.program.method C) fails x) (wait_of s i T x) (move_of P.program s i T (P.program.method C) fails x)
  exec-fine fails Inc h r = inc-fine P A s inv i li lv (next h) r
  exec-fine fails Pop h r = pop-fine P A s inv i li lv (next h) r
  exec-fine fails Push0 h r = push0-fine P A s inv i li lv (next h) r
  exec-fine fails (Load v) h r = load-fine P A s inv i li lv v h.0 (next h.1) r
  exec-fine fails (Store v) h r = store-fine P A s inv i li lv v h.0 (next h.1) r
  exec-fine fails (If a) h r =
      if-fine P A s inv i li lv a (next h.1) (record { class_known = here.class_known; first = h.0.0; last = h.0.1 }) r
  exec-fine fails (Enter v a) h r = enter-fine P A s inv i li lv v h.0 a h.1 (next h.2) r
  exec-fine fails (Exit v) h r = exit-fine P A s inv i li lv v h.0 (next h.1) r
  exec-fine fails (New c a) h r = new-fine P A s inv i li lv c a fails h.0 h.1 (next h.2) r
  exec-fine fails (Start c) h r = start_fine P A s inv i li lv c h.0 (next h.1) r
  exec-fine fails (Throw a) h r = athrow-fine P A s inv i li lv a h r
  exec-fine fails Return h r = return-fine P A s inv i li lv r
  exec-fine fails (Get c f a) h r = get-fine P A s inv i li lv c f a h.1 h.2 (next h.3) r
  exec-fine fails (Put c f a) h r = put-fine P A s inv i li lv c f a h.1 h.2 (next h.3) r
  exec-fine fails Nothing h r = absurd h

  table_here : InstructionFits P.program.classes (λ d. (P.program.method d).fields) vars code L ((P.program.method C).instruction L)
  table_here = A.formed.table C L here.class_known here.first here.last

  abbrev X : Instruction
  X = (P.program.method C).instruction L

  fine : (fails : Bool) → Fine P s i (fault_of P.program s i T (P.program.method C) fails X) (wait_of s i T X) (move_of P.program s i T (P.program.method C) fails X)
  fine fails = exec-fine fails X table_here (A.rule C L here)

  -- THEOREM: an instruction of a live thread draws no fault
  pub no_fault : (fails : Bool) → fault_of P.program s i T (P.program.method C) fails X ≡ 0
  no_fault fails = (fine fails).no_fault

  -- THEOREM: where it doesn't wait, its move is a good step
  pub move-good : (fails : Bool) → wait_of s i T X ≡ 0 → Good P s i (move_of P.program s i T (P.program.method C) fails X)
  move-good fails = (fine fails).good

  drawn : (ok : Bool) (n : ℕ) → 3 ≤ n → n ≤ 5 → test ok n 0 ≢ 0 → Good P s i (refused (test ok n 0) s)
  unfolding refuse
  drawn true n l k d = absurd (d refl)
  drawn false n l k d = given P s i n l k inv

  -- monitorenter never waits where it meets null
  lock-waits : (null free : Bool) → cond null 0 (test free 3 0) ≢ 0 → Good P s i (refused (cond null 0 (test free 3 0)) s)
  lock-waits true free n = absurd (n refl)
  lock-waits false free n = drawn free 3 (omega arith) (omega arith) n

  -- one that waits answers 3 or 4, and changes nothing
  waits : (x : Instruction) → wait_of s i T x ≢ 0 → Good P s i (refused (wait_of s i T x) s)
  waits Inc n = absurd (n refl)
  waits Pop n = absurd (n refl)
  waits Push0 n = absurd (n refl)
  waits (Load v) n = absurd (n refl)
  waits (Store v) n = absurd (n refl)
  waits (If a) n = absurd (n refl)
  waits (Enter v a) n = lock-waits (is_null (var_of T v.0)) (others_free s.counts i (lock_of T v)) n
  waits (Exit v) n = absurd (n refl)
  waits (New c a) n = absurd (n refl)
  waits (Start c) n = drawn (ltb (lowest_free s) 8) 4 (omega arith) (omega arith) n
  waits (Throw a) n = absurd (n refl)
  waits Return n = absurd (n refl)
  waits (Get c f a) n = absurd (n refl)
  waits (Put c f a) n = absurd (n refl)
  waits Nothing n = absurd (n refl)

  -- THEOREM: every step of a live thread is good
  pub run-good : (fails : Bool) → Good P s i (run_of P.program s i T fails)
  unfolding run_of
  run-good fails = draws (Good P s i) s _ _ (λ n. absurd (n (no_fault fails))) (λ _. draws (Good P s i) s _ _ (waits X) (move-good fails))

  -- at monitorexit, the thread holds the object
  pub exit-held : (v : Var) → (P.program.method C).instruction L ≡ Exit v → 0 < count_of s.counts i (object_of (var_of T v.0))
  exit-held v q =
      let h : InstructionFits P.program.classes (λ d. (P.program.method d).fields) vars code L (Exit v) = rw q at table_here in
      let r : rule_holds vars (rule_of P.program vars (P.row C) L (Exit v)) ≡ true = rw q at (A.rule C L here) in
      leaves_held P A s inv i li lv v h.0 r
