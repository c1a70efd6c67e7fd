-- The answers of passes, as the code gives them: whether something was raised, or that something cannot be. Of contracts inside the crate only.
use Rattle.std.specs.Prelude.{Bool, true, false, ℕ, Result, Ok, Err}
use Rattle.pairs.specs.declared.OutOfRange.{OutOfRange}

abbrev pub rise_in : Result Bool OutOfRange → ℕ
rise_in (Ok false) = 0
rise_in (Ok true) = 1
rise_in (Err _) = 2

abbrev pub settled_in : Result Unit OutOfRange → ℕ
settled_in (Ok _) = 0
settled_in (Err _) = 2
