-- Document 02, Q-9: what is written for each read instruction, as rows of document 01's table, and as bytes.
use Rattle.std.specs.Prelude.{cond, List, [], ◌∷◌, ◌++◌, ℕ, ◌+◌, ◌-◌, ◌/◌, ◌%◌, length, take, drop, ltb}
use Rattle.ground.specs.Lists.{each}
use Rattle.instructions.specs.declared.Code.{Code}
use Rattle.java.specs.declared.Java.{Java}
use Rattle.java.specs.declared.Java.TheVariants.{Nop, Pop, Iconst0, Load, Store, Ifne, Enter, Exit, New, Athrow, Return, Iinc, Other}
use Rattle.java.specs.Instructions.{java_at, size_at}
use Rattle.java.specs.Classes.{class_number}
use Rattle.offsets.specs.Offsets.{begins, address_of}
use Rattle.offsets.specs.Handlers.{entries, handler_of, covered_by}
use Rattle.offsets.specs.Targets.{target_of}

-- an instruction of the table, four bytes
abbrev pub row : ℕ → ℕ → ℕ → Code
row opcode operand address = record { opcode = opcode; operand = operand; address = address }

-- the address of the handler of what stands at an offset, where `address` gives that of an offset; 0 is none
unfoldable pub handler_by : (ℕ → ℕ) → List ℕ → ℕ → ℕ
handler_by address table offset =
    cond (ltb (covered_by table offset) (entries table)) (address (handler_of table (covered_by table offset))) 0

abbrev pub handler_for : List ℕ → List ℕ → ℕ → ℕ
handler_for code table offset = handler_by (address_of code) table offset

module _ (classes code table : List ℕ) (p : ℕ) where
  -- the rows written for the instruction at offset p: nop yields nothing; an aload and its lock instruction become one, covered as the lock is, which is the pair's last byte;
  -- iinc by 1 is load, inc, store
  unfoldable pub rows_of : Java → List Code
  rows_of Nop = []
  rows_of Pop = row 2 0 0 ∷ []
  rows_of Iconst0 = row 3 0 0 ∷ []
  rows_of (Load v) = row 4 v 0 ∷ []
  rows_of (Store v) = row 5 v 0 ∷ []
  rows_of (Ifne d) = row 6 0 (address_of code (target_of code p d)) ∷ []
  rows_of (Enter v) = row 7 v (handler_for code table (p + size_at code p - 1)) ∷ []
  rows_of (Exit v) = row 8 v 0 ∷ []
  rows_of (New i) = row 9 (class_number classes i) (handler_for code table p) ∷ []
  rows_of Athrow = row 11 0 (handler_for code table p) ∷ []
  rows_of Return = row 12 0 0 ∷ []
  rows_of (Iinc v) = row 4 v 0 ∷ row 1 0 0 ∷ row 5 v 0 ∷ []
  rows_of Other = []

  -- the rows written for what begins at offset p
  unfoldable pub rows_at : List Code
  rows_at = cond (begins code p) (rows_of (java_at code p)) []

-- the rows written for what begins before offset p
unfoldable pub rows_to : List ℕ → List ℕ → List ℕ → ℕ → List Code
rows_to classes code table p = each p (rows_at classes code table)

-- four bytes: opcode, operand, address (2, big-endian)
abbrev pub row_bytes : Code → List ℕ
row_bytes x = x.opcode ∷ x.operand ∷ x.address / 256 ∷ x.address % 256 ∷ []

unfoldable pub bytes_of : List Code → List ℕ
bytes_of [] = []
bytes_of (x ∷ xs) = row_bytes x ++ bytes_of xs

-- a buffer with these bytes at its start, and past them as it came
unfoldable pub laid_over : List ℕ → List ℕ → List ℕ
laid_over bytes out = bytes ++ drop (length bytes) out

-- the same from place i on
unfoldable pub laid_at : ℕ → List ℕ → List ℕ → List ℕ
laid_at i bytes out = take i out ++ bytes ++ drop (i + length bytes) out
