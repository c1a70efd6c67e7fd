-- What a step gives: a number of document 01's table, and the state.
use Rattle.std.specs.Prelude.{ℕ}
use Rattle.state.specs.declared.State.{State}
use Rattle.turns.specs.declared.Stepped as code
use Rattle.turns.specs.Numbers.{answer_number}

pub record Stepped : Type 0 where
  pub state : State
  pub answer : ℕ

-- what the code's step gives, with the number of its answer
abbrev pub stepped_in : code.Stepped → Stepped
stepped_in r = record { state = r.state; answer = answer_number r.answer }
