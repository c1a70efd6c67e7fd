-- Document 02, Q-2: counts that agree with the history.
use Rattle.std.specs.Prelude.{List, [], ◌∷◌, ◌++◌, ◌≡◌, Bool, true, false, cond, ◌&&◌, ℕ, ◌+◌, ◌-◌, ◌≤◌, ◌<◌}
use Rattle.verifier.specs.Verdict.{verdict_of}
use Rattle.state.specs.State.{thread_at, count_of}
use Rattle.machine.specs.Machine.{readable}
use Rattle.machine.specs.Runs.{Step, reached}
use Rattle.history.specs.Event.{Event}
use Rattle.history.specs.Reading.{is_of, enters, exits, live_by, entered, exited}
use Rattle.history.specs.History.{event_of, history}

-- the machine's thread t is live after the steps xs
abbrev pub is_live : List ℕ → List Step → ℕ → Bool
is_live b xs t = (thread_at (reached b xs) t).live

-- the steps xs, and x after them
abbrev pub with_step : List Step → Step → List Step
with_step xs x = xs ++ (x ∷ [])

-- how much the event adds for thread t: 1 where it is its own and such a one
abbrev pub added : ℕ → (Event → Bool) → Event → ℕ
added t such e = cond (is_of t e && such e) 1 0

-- "any list of steps from a fresh machine, any live thread and any object: the number of its monitorenters on that object that answered 0 since it started, less its monitorexits that did, is its count"
pub record Agrees (b : List ℕ) : Type 0 where
  -- the history says who is live
  pub live : (xs : List Step) (t : ℕ) → live_by (history b xs) t ≡ is_live b xs t
  -- the first number is never the smaller ..
  pub never_less : (xs : List Step) (t o : ℕ) → is_live b xs t ≡ true → o < 32 → exited (history b xs) t o ≤ entered (history b xs) t o
  -- .. and less the second it is the count
  pub count : (xs : List Step) (t o : ℕ) → is_live b xs t ≡ true → o < 32
      → entered (history b xs) t o - exited (history b xs) t o ≡ count_of (reached b xs).counts t o
  -- "since it started", by the machine's own threads; the rest fixes both numbers of every live thread, step by step. Before any step both are 0 ..
  pub at_first : (t o : ℕ) → (entered (history b []) t o ≡ 0) × (exited (history b []) t o ≡ 0)
  -- .. and so they are after a step that found the thread not live and left it live
  pub at_start : (xs : List Step) (x : Step) (t o : ℕ) → is_live b xs t ≡ false → is_live b (with_step xs x) t ≡ true
      → (entered (history b (with_step xs x)) t o ≡ 0) × (exited (history b (with_step xs x)) t o ≡ 0)
  -- .. and of a thread that was live before the step, each grows by what the step's event adds
  pub enters_grow : (xs : List Step) (x : Step) (t o : ℕ) → is_live b xs t ≡ true
      → entered (history b (with_step xs x)) t o ≡ added t (enters o) (event_of b (reached b xs) x) + entered (history b xs) t o
  pub exits_grow : (xs : List Step) (x : Step) (t o : ℕ) → is_live b xs t ≡ true
      → exited (history b (with_step xs x)) t o ≡ added t (exits o) (event_of b (reached b xs) x) + exited (history b xs) t o

-- Q-2: "for any bundle with verdict 0"
abbrev pub CountsAgree : Type 0
CountsAgree = (b : List ℕ) → (verdict_of b).number ≡ 0 → Agrees b

-- verdicts 8, 9 and 10 make no difference: it is so of any bundle that can be run
abbrev pub CountsAgreeUnchecked : Type 0
CountsAgreeUnchecked = (b : List ℕ) → readable b ≡ true → Agrees b
