-- Document 02, Q-4: what is kept along a run. Each of any bundle that can be read, after any list of steps from its fresh machine.
use Rattle.std.specs.Prelude.{◌≡◌, Bool, true, false, List, ◌≢◌, ℕ, ◌<◌}
use Rattle.held.specs.Word.{bit, bits_set}
use Rattle.state.specs.declared.State.{State}
use Rattle.state.specs.State.{thread_at, word_of}
use Rattle.belongs.specs.Belongs.{Worded}
use Rattle.machine.specs.Machine.{readable, step_of}
use Rattle.machine.specs.Runs.{Step, reached}
use Rattle.holding.specs.Question.{number_held, held_of}

-- "a 32-bit word beside its counts, with bit i set exactly when its count for object i is above zero"
abbrev pub WordsKept : Type 0
WordsKept = (b : List ℕ) → readable b ≡ true → (xs : List Step) → Worded (reached b xs)

-- a thread that isn't live, ended or never started, has no bit set: start and end leave the word 0
abbrev pub IdleWords : Type 0
IdleWords =
    (b : List ℕ) → readable b ≡ true → (xs : List Step) (t i : ℕ) → t < 8 → i < 32
    → (thread_at (reached b xs) t).live ≡ false → bit (word_of (reached b xs).held t) i ≡ false

-- "answer the number held from the word": as many bits are set as counts are above zero
abbrev pub NumberKept : Type 0
NumberKept =
    (b : List ℕ) → readable b ≡ true → (xs : List Step) (t : ℕ) → t < 8
    → bits_set (word_of (reached b xs).held t) ≡ number_held (reached b xs).counts t

-- "the question draws 17, 18 and 5 as a step does": what it refuses, a step of that thread refuses by the same number
abbrev pub AsAStep : Type 0
AsAStep = (b : List ℕ) (s : State) (i : ℕ) (fails : Bool) → (held_of b s i).answer ≢ 0 → (step_of b s i fails).answer ≡ (held_of b s i).answer
