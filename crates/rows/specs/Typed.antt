-- The typed program that rules, forms, row 1 and soundness speak of; of bytes only verdicts 1 to 7 speak.
use Rattle.std.specs.Prelude.{List, ℕ}
use Rattle.bundle.specs.Container.{classes, class_at, part_of}
use Rattle.bundle.specs.Program.{Program, program_of}
use Rattle.rows.specs.Rows.{Row, row_at}

-- the abstract program, and the row that is claimed at each address of each class
pub record Typed : Type 0 where
  pub program : Program
  pub row : ℕ → ℕ → Row

-- the typed program that a bundle is
abbrev pub typed_of : List ℕ → Typed
typed_of b = record { program = program_of b; row = λ c l. let k = class_at b c in row_at (classes b) k (part_of b k) l }
