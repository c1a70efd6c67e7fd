-- What a step gives: the answer of document 01's table, and the state.
use Rattle.std.specs.Prelude.{Bool, ℕ, eqb}
use Rattle.ground.specs.Chain.{refuse}
use Rattle.state.specs.declared.State.{State}
use Rattle.turns.specs.Stepped.{Stepped}

-- all but 0, 1, 2 give back the state as given
abbrev pub refused : ℕ → State → Stepped
refused n s = record { answer = n; state = s }

-- the answer n where the test fails, else what follows
abbrev pub unless : Bool → ℕ → State → Stepped → Stepped
unless ok n s rest = refuse ok (refused n s) rest

-- the number n where the test fails, else what follows
abbrev pub test : Bool → ℕ → ℕ → ℕ
test ok n rest = refuse ok n rest

-- the answer n where a test drew it; 0 is none, and then what follows
unfoldable pub unless_drawn : ℕ → State → Stepped → Stepped
unless_drawn n s rest = unless (eqb n 0) n s rest
