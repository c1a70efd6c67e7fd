-- Document 02, Q-7: run only what was accepted.
use Rattle.std.specs.Prelude.{Result, Ok, Err, cond, List, [], ◌∷◌, ◌≡◌, ℕ, ◌+◌, ◌%◌, ◌≤◌, ◌<◌, leb, eqb, length, take}
use Rattle.ground.specs.Bytes.{at}
use Rattle.ground.specs.Chain.{refuse}
use Rattle.verdicts.specs.declared.Verdict.{Verdict}
use Rattle.verdicts.specs.declared.Refusal.{Refusal}
use Rattle.verdicts.specs.Verdicts.{verdict}
use Rattle.verdicts.specs.Numbers.{numbers}
use Rattle.verifier.specs.Verdict.{verdict_of}
use Rattle.state.specs.declared.State.{State}
use Rattle.state.specs.State.{empty_state}
use Rattle.machine.specs.Machine.{fresh_of}
use Rattle.machine.specs.Runs.{Step, answer, after, reached}
use Rattle.runner.specs.declared.Ran as given

-- a schedule byte: low three bits the thread, top bit "new fails", other bits ignored
abbrev pub step_in : ℕ → Step
step_in x = record { who = x % 8; fails = leb 128 x }

-- a list of schedule bytes
unfoldable pub steps_in : List ℕ → List Step
steps_in [] = []
steps_in (x ∷ xs) = step_in x ∷ steps_in xs

-- the number of steps that answered 0, 1 or 2
unfoldable pub taken : List ℕ → State → List Step → ℕ
taken b s [] = 0
taken b s (x ∷ xs) = cond (leb (answer b s x) 2) 1 0 + taken b (after b s x) xs

-- 0, or 19 where the bundle is refused; the verdict; the last state; how many steps answered 0, 1 or 2
pub record Ran : Type 0 where
  pub state : State
  pub verdict : Verdict
  pub steps : ℕ
  pub answer : ℕ

-- 19 with the verdict where the bundle isn't accepted; the state is then a fresh machine's under 17 and the number is 0
abbrev pub refused_by : Verdict → Ran
refused_by v = record { answer = 19; verdict = v; state = empty_state; steps = 0 }

-- a run, of an accepted bundle of so many classes, or why the bundle is refused
abbrev pub ran_in : Result given.Ran Refusal → Ran
ran_in (Ok r) = record { answer = 0; verdict = verdict 0 r.classes 0; state = r.state; steps = r.steps }
ran_in (Err r) = refused_by (numbers r)

-- checks the bundle once, runs the list from a fresh machine and gives the last state and the number of steps that answered 0, 1 or 2
unfoldable pub ran_of : List ℕ → List ℕ → Ran
ran_of b xs =
    refuse (eqb (verdict_of b).number 0) (refused_by (verdict_of b))
    (record {
      answer = 0;
      verdict = verdict_of b;
      state = reached b (steps_in xs);
      steps = taken b (fresh_of b).state (steps_in xs);
    })

-- in this call, answers 11 to 18 never arise: the step that byte n of the list asks for, from the state that the bytes before it reach, answers at most 5
abbrev pub NeverFaults : Type 0
NeverFaults =
    (b xs : List ℕ) → (verdict_of b).number ≡ 0 → (n : ℕ) → n < length xs
    → answer b (reached b (steps_in (take n xs))) (step_in (at xs n)) ≤ 5
