-- Document 01: a row has V variable entries, one byte of stack depth, and K stack entries, top first. It is read as it stands in the bundle, entry by entry.
use Rattle.std.specs.Prelude.{List, ℕ, ◌+◌, ◌-◌, ◌*◌, ltb, length}
use Rattle.ground.specs.Bytes.{at}
use Rattle.ground.specs.Chain.{refuse}
use Rattle.bundle.specs.declared.Class.{Class}
use Rattle.bundle.specs.declared.Record.{Record}
use Rattle.bundle.specs.Container.{width, descriptor_count}
use Rattle.entries.specs.Entries.{Entry, Blank, entry_of}

-- the descriptors; k instructions of four bytes; k rows: where a row begins that i rows come before
unfoldable pub start_behind : Class → ℕ → ℕ
start_behind k i = descriptor_count k + 4 * k.code + i * width k

-- addresses run from 1
unfoldable pub row_start : Class → ℕ → ℕ
row_start k l = start_behind k (l - 1)

-- an entry is four bytes: the one at place p of a record, in a bundle of n classes; one that is not all there is none
unfoldable pub entry_at : ℕ → List ℕ → ℕ → Entry
entry_at n r p = refuse (ltb (p + 3) (length r)) Blank (entry_of n (at r p) (at r (p + 1)) (at r (p + 2)) (at r (p + 3)))

-- the entry of variable i, in a row that begins at s
unfoldable pub variable_at : ℕ → List ℕ → ℕ → ℕ → Entry
variable_at n r s i = entry_at n r (s + 4 * i)

-- the depth, behind V variable entries
unfoldable pub depth_at : List ℕ → ℕ → ℕ → ℕ
depth_at r s vars = at r (s + 4 * vars)

-- the stack entry j, the top being entry 0; there are K of them
unfoldable pub stack_at : ℕ → Class → List ℕ → ℕ → ℕ → Entry
stack_at n k r s j = refuse (ltb j k.limit) Blank (entry_at n r (s + 4 * k.vars + 1 + 4 * j))

-- a row as the rules speak of it
pub record Row : Type 0 where
  pub variable : ℕ → Entry
  pub depth : ℕ
  pub stack : ℕ → Entry

-- the row that begins at s
abbrev pub row_from : ℕ → Class → List ℕ → ℕ → Row
row_from n k r s = record { variable = variable_at n r s; depth = depth_at r s k.vars; stack = stack_at n k r s }

-- the row of address l
abbrev pub row_at : ℕ → Class → List ℕ → ℕ → Row
row_at n k r l = row_from n k r (row_start k l)

-- the row of a record that begins at s
abbrev pub row_in : Record → ℕ → Row
row_in m s = row_from m.classes m.class m.bytes.now s

-- .. and the one of address l
abbrev pub row_of : Record → ℕ → Row
row_of m l = row_at m.classes m.class m.bytes.now l
