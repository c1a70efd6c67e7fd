-- Document 02, Q-4: the question how many objects a thread holds.
use Rattle.std.specs.Prelude.{Bool, ◌&&◌, List, ℕ, ltb, Result, Ok, Err}
use Rattle.ground.specs.Bounded.{count_below}
use Rattle.ground.specs.Chain.{refuse}
use Rattle.bundle.specs.Program.{program_of}
use Rattle.state.specs.declared.State.{State}
use Rattle.state.specs.State.{thread_at, count_of}
use Rattle.belongs.specs.Belongs.{state_ok}
use Rattle.turns.specs.declared.Answer.{Answer}
use Rattle.turns.specs.Numbers.{answer_number}
use Rattle.machine.specs.Machine.{readable}

-- 0 with the number of objects, or 17, 18 or 5 with 0
pub record Holding : Type 0 where
  pub answer : ℕ
  pub number : ℕ

-- thread i's count for object o is above zero
abbrev pub is_held : List ℕ → ℕ → ℕ → Bool
is_held counts i o = ltb 0 (count_of counts i o)

-- how many objects thread i holds
unfoldable pub number_held : List ℕ → ℕ → ℕ
number_held counts i = count_below 32 (is_held counts i)

-- a refusal gives the number 0
abbrev pub refused : ℕ → Holding
refused n = record { answer = n; number = 0 }

-- the question draws 17, 18 and 5 as a step does; else it answers 0 and the number held
unfoldable pub held_of : List ℕ → State → ℕ → Holding
held_of b s i =
    refuse (readable b) (refused 17)
    (refuse (state_ok (program_of b) s) (refused 18)
    (refuse (ltb i 8 && (thread_at s i).live) (refused 5)
    (record { answer = 0; number = number_held s.counts i })))

-- what the code answers, as document 02 has it
abbrev pub holding_in : Result ℕ Answer → Holding
holding_in (Ok n) = record { answer = 0; number = n }
holding_in (Err a) = refused (answer_number a)
