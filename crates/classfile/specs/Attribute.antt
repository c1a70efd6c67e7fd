-- Document 02, Q-9: one Code attribute (Java Virtual Machine Specification, 4.7.3): attribute_name_index (2), attribute_length (4), max_stack (2), max_locals (2),
-- code_length (4), the code, exception_table_length (2), the exception table. What follows the table is not read, nor are the first four fields.
use Rattle.std.specs.Prelude.{Bool, ◌&&◌, List, ℕ, ◌+◌, ◌*◌, length, leb}
use Rattle.ground.specs.Bytes.{be16, part, quad}

-- 0 where the input ends before it
abbrev pub code_length : List ℕ → ℕ
code_length a = quad a 10

-- where the exception table's length stands, right after the code
abbrev pub table_at : List ℕ → ℕ
table_at a = 14 + code_length a

-- entries of eight bytes
unfoldable pub table_end : List ℕ → ℕ
table_end a = table_at a + 2 + 8 * be16 a (table_at a)

-- 30 when this fails: input ends before the exception table does, or no code
unfoldable pub whole : List ℕ → Bool
whole a = leb 1 (code_length a) && leb (table_end a) (length a)

unfoldable pub code_of : List ℕ → List ℕ
code_of a = part a 14 (table_at a)

unfoldable pub table_of : List ℕ → List ℕ
table_of a = part a (table_at a + 2) (table_end a)
