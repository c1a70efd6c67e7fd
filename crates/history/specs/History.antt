-- Document 02, Q-2: the history of a list of steps from a fresh machine.
use Rattle.std.specs.Prelude.{List, [], ◌∷◌, ℕ}
use Rattle.state.specs.declared.State.{State}
use Rattle.machine.specs.Machine.{fresh_of}
use Rattle.machine.specs.Runs.{Step, answer, after}
use Rattle.history.specs.Met.{Met}
use Rattle.history.specs.Event.{Event}
use Rattle.history.specs.Meeting.{met_of}

-- a step of thread i, what it met, and its answer n
abbrev pub event : ℕ → Met → ℕ → Event
event i m n = record { thread = i; answer = n; met = m }

-- the step x from the state s
abbrev pub event_of : List ℕ → State → Step → Event
event_of b s x = event x.who (met_of b s x.who) (answer b s x)

-- the steps one after another
unfoldable pub history_from : List ℕ → State → List Step → List Event
history_from b s [] = []
history_from b s (x ∷ xs) = event_of b s x ∷ history_from b (after b s x) xs

-- from the fresh machine of b
abbrev pub history : List ℕ → List Step → List Event
history b xs = history_from b (fresh_of b).state xs
