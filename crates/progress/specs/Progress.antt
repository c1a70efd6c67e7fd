-- Document 02, Q-10, the promise of a lock order by class: for a bundle accepted under the profile, any list of steps and any levels: while a thread lives, some live thread's next step answers something other than 3.
use Rattle.std.specs.Prelude.{List, ◌≡◌, ◌≢◌, Bool, true, ℕ, ◌<◌}
use Rattle.order.specs.Verdict.{ordered_verdict_of}
use Rattle.state.specs.declared.State.{State}
use Rattle.state.specs.State.{thread_at}
use Rattle.machine.specs.Runs.{Step, answer, reached}

-- thread t lives; no number above 7 does, in a state that a run reaches
abbrev pub Lives : State → ℕ → Type 0
Lives s t = (thread_at s t).live ≡ true

-- thread t's next step answers something other than 3, whether an allocation fails or not
abbrev pub Goes : List ℕ → State → ℕ → Type 0
Goes b s t = (fails : Bool) → answer b s (record { who = t; fails = fails }) ≢ 3

-- PROGRESS
abbrev pub Progress : Type 0
Progress =
    (b levels : List ℕ) → (ordered_verdict_of b levels).number ≡ 0 → (xs : List Step)
    → (t : ℕ) → Lives (reached b xs) t
    → (u : ℕ) × (u < 8) × Lives (reached b xs) u × Goes b (reached b xs) u
