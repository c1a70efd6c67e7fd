-- Any list of steps, each a thread and whether an allocation fails.
use Rattle.std.specs.Prelude.{List, [], ◌∷◌, Bool, ℕ}
use Rattle.state.specs.declared.State.{State}
use Rattle.machine.specs.Machine.{fresh_of, step_of}

-- one step of a schedule
pub record Step : Type 0 where
  pub who : ℕ
  pub fails : Bool

abbrev pub answer : List ℕ → State → Step → ℕ
answer b s x = (step_of b s x.who x.fails).answer

abbrev pub after : List ℕ → State → Step → State
after b s x = (step_of b s x.who x.fails).state

-- a list of steps, one after another
unfoldable pub run : List ℕ → State → List Step → State
run b s [] = s
run b s (x ∷ xs) = run b (after b s x) xs

-- from the fresh machine of b
abbrev pub reached : List ℕ → List Step → State
reached b xs = run b (fresh_of b).state xs
