-- How a step is put together: tests that refuse and give back the state as given, and then a move.
use mathlib.Core.Path.{◌≡◌, refl, sym, subst}
use mathlib.Core.Logic.{◌≢◌}
use mathlib.Core.Bool.{Bool, true, false, cond, ◌&&◌}
use mathlib.Core.List.{List}
use Prim.Native.Nat.{ℕ, ◌≤◌, ◌<◌}
use native.Mathlib.Omega.{arith}
use lib.Dec.{ltb, eqb}
use borrow.Author.Tests.{ltb-true, eqb-true, eqb-false}
use Rattle.ground.specs.Chain.{refuse}
use Rattle.ground.proofs.Bools.{and-fst, and-snd}
use Rattle.instructions.specs.declared.Instruction.{Instruction}
use Rattle.bundle.specs.Program.{Method, program_of}
use Rattle.structure.proofs.Structured.{WellFormed}
use Rattle.state.specs.declared.State.{State}
use Rattle.state.specs.State.{thread_at}
use Rattle.belongs.specs.Belongs.{state_ok}
use Rattle.belongs.proofs.Belongs.{Belongs, belongs-elim}
use Rattle.turns.specs.Stepped.{Stepped}
use Rattle.turns.specs.Answers.{refused, unless, unless_drawn}
use Rattle.turns.specs.Faults.{fault_of}
use Rattle.turns.specs.Waits.{wait_of}
use Rattle.turns.specs.Moves.{move_of}
use Rattle.turns.specs.Exec.{run_of}
use Rattle.machine.specs.Machine.{readable, step_of}
use Rattle.machine.proofs.Ready.{formed}
use Rattle.machine.proofs.Drawn.{fault-drawn, wait-drawn}

-- a property of what a step gives
module _ (Q : Stepped → Type 0) where
  pub either : (t : Bool) (a b : Stepped) → (t ≡ true → Q a) → (t ≡ false → Q b) → Q (cond t a b)
  either true a b p q = p refl
  either false a b p q = q refl

  module _ (s : State) where
    pub refuses : (ok : Bool) (n : ℕ) (rest : Stepped) → (ok ≡ false → Q (refused n s)) → (ok ≡ true → Q rest) → Q (unless ok n s rest)
    unfolding refuse
    refuses ok n rest q p = either ok rest (refused n s) p q

    pub draws : (n : ℕ) (rest : Stepped) → (n ≢ 0 → Q (refused n s)) → (n ≡ 0 → Q rest) → Q (unless_drawn n s rest)
    unfolding unless_drawn refuse
    draws n rest q p = either (eqb n 0) rest (refused n s) (λ e. p (eqb-true n 0 e)) (λ e. q (eqb-false n 0 e))

abbrev pub method_here : List ℕ → State → ℕ → Method
method_here b s i = (program_of b).method (thread_at s i).class

abbrev pub instruction_here : List ℕ → State → ℕ → Instruction
instruction_here b s i = (method_here b s i).instruction (thread_at s i).at.0

-- what is known where thread i makes its move
pub record Moving (b : List ℕ) (s : State) (i : ℕ) (fails : Bool) : Type 0 where
  pub formed : WellFormed (program_of b)
  pub belongs : Belongs (program_of b) s
  pub thread_8 : i < 8
  pub live : (thread_at s i).live ≡ true
  pub no_fault : fault_of (program_of b) s i (thread_at s i) (method_here b s i) fails (instruction_here b s i) ≡ 0
  pub no_wait : wait_of s i (thread_at s i) (instruction_here b s i) ≡ 0

-- the refusals of a step, in their order
step_is : (b : List ℕ) (s : State) (i : ℕ) (fails : Bool)
    → step_of b s i fails
    ≡ unless (readable b) 17 s (unless (state_ok (program_of b) s) 18 s (unless (ltb i 8 && (thread_at s i).live) 5 s (run_of (program_of b) s i (thread_at s i) fails)))
unfolding step_of
step_is b s i fails = refl

-- what holds of the state as given, refused with 3 or more, and of the move, holds of a step
pub step_by : (Q : Stepped → Type 0) (b : List ℕ) (s : State) (i : ℕ) (fails : Bool) → ((n : ℕ) → 3 ≤ n → Q (refused n s))
    → (Moving b s i fails → Q (move_of (program_of b) s i (thread_at s i) (method_here b s i) fails (instruction_here b s i))) → Q (step_of b s i fails)
unfolding run_of
step_by Q b s i fails q p =
    subst Q (sym (step_is b s i fails)) (refuses Q s _ _ _ (λ _. q 17 (omega arith)) (λ e. refuses Q s _ _ _ (λ _. q 18 (omega arith)) (λ f. refuses Q s _ _ _ (λ _. q 5 (omega arith)) (λ g.
    draws Q s _ _ (λ n. q _ ((fault-drawn (program_of b) s i (thread_at s i) (method_here b s i) fails (instruction_here b s i)).high n)) (λ h.
    draws Q s _ _ (λ n. q _ ((wait-drawn (program_of b) s i (thread_at s i) (instruction_here b s i)).high n)) (λ k.
    p (record {
      formed = formed b e;
      belongs = belongs-elim (program_of b) s f;
      thread_8 = ltb-true i 8 (and-fst (ltb i 8) _ g);
      live = and-snd (ltb i 8) _ g;
      no_fault = h;
      no_wait = k;
    })))))))
