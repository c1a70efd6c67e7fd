-- A step that answers 0, 1 or 2 is a move of the instruction that stands there, which drew no fault.
use mathlib.Core.Path.{◌≡◌, refl, sym, ◌∙◌, ap, subst}
use mathlib.Core.Bool.{Bool, true, false, cond}
use mathlib.Core.List.{List, [], ◌∷◌}
use Prim.Native.Nat.{ℕ, suc, ◌≤◌, ◌<◌}
use native.Mathlib.Omega.{arith}
use lib.Dec.{eqb}
use borrow.Author.Tests.{eqb-true, lt-ltb}
use Rattle.ground.specs.Chain.{refuse}
use Rattle.instructions.specs.declared.Instruction.{Instruction}
use Rattle.bundle.specs.Program.{program_of}
use Rattle.threads.specs.declared.Thread.{Thread}
use Rattle.state.specs.declared.State.{State}
use Rattle.state.specs.State.{thread_at}
use Rattle.turns.specs.Stepped.{Stepped}
use Rattle.turns.specs.Answers.{test, unless_drawn}
use Rattle.turns.specs.Faults.{fault_of}
use Rattle.turns.specs.Waits.{wait_of}
use Rattle.turns.specs.Moves.{move_of}
use Rattle.belongs.specs.Belongs.{state_ok}
use Rattle.turns.specs.Exec.{exec_of, run_of}
use Rattle.machine.specs.Machine.{readable, step_of}
use Rattle.machine.proofs.Refusals.{Moving, method_here, instruction_here, step_by}
use Rattle.faithful.specs.Faithful.{steps}

-- a test that drew nothing was passed
pub passed : (ok : Bool) (n rest : ℕ) → test ok (suc n) rest ≡ 0 → (ok ≡ true) × (rest ≡ 0)
unfolding refuse
passed true n rest e = (refl, e)
passed false n rest e = absurd (omega arith)

-- what is known of a move of x by thread i, which is t
pub record Moved (b : List ℕ) (s : State) (i : ℕ) (t : Thread) (fails : Bool) (x : Instruction) : Type 0 where
  pub number : i < 8
  pub limit : ((program_of b).method t.class).limit ≤ 16
  pub no_fault : fault_of (program_of b) s i t ((program_of b).method t.class) fails x ≡ 0
  pub is : step_of b s i fails ≡ move_of (program_of b) s i t ((program_of b).method t.class) fails x

module _ (b : List ℕ) (s : State) (i : ℕ) (fails : Bool) where
  record Known (r : Stepped) : Type 0 where
    moved : r.answer ≤ 2 → Moving b s i fails × (r ≡ move_of (program_of b) s i (thread_at s i) (method_here b s i) fails (instruction_here b s i))

  known : Known (step_of b s i fails)
  known = step_by Known b s i fails (λ n l. record { moved = λ h. absurd (omega arith) }) (λ m. record { moved = λ h. (m, refl) })

  limited : Moving b s i fails → (method_here b s i).limit ≤ 16
  limited m = m.formed.limit_16 (thread_at s i).class (m.belongs.live_placed i m.thread_8 m.live).class_known

  pub step-moves : (t : Thread) (x : Instruction) → thread_at s i ≡ t → ((program_of b).method t.class).instruction t.at.0 ≡ x → (step_of b s i fails).answer ≤ 2
      → Moved b s i t fails x
  step-moves t x d e h =
      let k = known.moved h in
      record {
        number = k.0.thread_8;
        limit = subst (λ (u : Thread). ((program_of b).method u.class).limit ≤ 16) d (limited k.0);
        no_fault =
            subst (λ (y : Instruction). fault_of (program_of b) s i t ((program_of b).method t.class) fails y ≡ 0) e
            (subst (λ (u : Thread). fault_of (program_of b) s i u ((program_of b).method u.class) fails (((program_of b).method u.class).instruction u.at.0) ≡ 0) d k.0.no_fault);
        is =
            subst (λ (y : Instruction). step_of b s i fails ≡ move_of (program_of b) s i t ((program_of b).method t.class) fails y) e
            (subst (λ (u : Thread). step_of b s i fails ≡ move_of (program_of b) s i u ((program_of b).method u.class) fails (((program_of b).method u.class).instruction u.at.0)) d k.1);
      }

-- ---- one step, and the first of several
module _ (b : List ℕ) (i : ℕ) where
  pub steps-none : (s : State) → steps b i [] s ≡ record { answer = 0; state = s }
  unfolding steps
  steps-none s = refl

  alike : (r : Stepped) (t : Bool) → eqb r.answer 0 ≡ t → cond t (record { answer = 0; state = r.state }) r ≡ r
  alike r true e = ap (λ (n : ℕ). record { answer = n; state = r.state }) (sym (eqb-true r.answer 0 e))
  alike r false e = refl

  pub steps-one : (x : Bool) (s : State) → steps b i (x ∷ []) s ≡ step_of b s i x
  unfolding steps
  steps-one x s = alike (step_of b s i x) (eqb (step_of b s i x).answer 0) refl

  pub low : (f : State → Stepped) (r : Stepped) (t : Bool) → eqb r.answer 0 ≡ t → (cond t (f r.state) r).answer ≤ 2 → r.answer ≤ 2
  low f r true e h = omega (arith, eqb-true r.answer 0 e)
  low f r false e h = h

  pub steps_first : (x : Bool) (xs : List Bool) (s : State) → (steps b i (x ∷ xs) s).answer ≤ 2 → (step_of b s i x).answer ≤ 2
  unfolding steps
  steps_first x xs s h = low (steps b i xs) (step_of b s i x) (eqb (step_of b s i x).answer 0) refl h

  pub steps_on : (x : Bool) (xs : List Bool) (s u : State) → step_of b s i x ≡ record { answer = 0; state = u } → steps b i (x ∷ xs) s ≡ steps b i xs u
  unfolding steps
  steps_on x xs s u e = rw e

-- ---- and a move that draws nothing is the step
pub step-goes : (b : List ℕ) (s : State) (i : ℕ) (fails : Bool) (t : Thread) (x : Instruction) → readable b ≡ true → state_ok (program_of b) s ≡ true → i < 8 → thread_at s i ≡ t
    → t.live ≡ true → ((program_of b).method t.class).instruction t.at.0 ≡ x → fault_of (program_of b) s i t ((program_of b).method t.class) fails x ≡ 0 → wait_of s i t x ≡ 0
    → step_of b s i fails ≡ move_of (program_of b) s i t ((program_of b).method t.class) fails x
unfolding step_of run_of unless_drawn refuse
step-goes b s i fails t x r o n d v e f w =
    rw (r, o, lt-ltb i 8 n, live)
    (subst (λ (u : Thread). here u ≡ move_of (program_of b) s i t ((program_of b).method t.class) fails x) (sym d)
    (subst (λ (y : Instruction). drawn t y ≡ move_of (program_of b) s i t ((program_of b).method t.class) fails x) (sym e) (rw (f, w))))
  where
    live : (thread_at s i).live ≡ true
    live = ap (λ (u : Thread). u.live) d ∙ v

    drawn : Thread → Instruction → Stepped
    drawn u y = exec_of (program_of b) s i u ((program_of b).method u.class) fails y

    here : Thread → Stepped
    here u = drawn u (((program_of b).method u.class).instruction u.at.0)
