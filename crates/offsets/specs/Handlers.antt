-- Document 02, Q-9: the exception table's entries, and which of them covers an instruction.
use Rattle.std.specs.Prelude.{Bool, ◌&&◌, List, ℕ, ◌+◌, ◌*◌, ◌/◌, length, leb, ltb}
use Rattle.ground.specs.Bytes.{be16}
use Rattle.ground.specs.Bounded.{first_below}
use Rattle.ground.specs.Chain.{refuse}

-- an entry is eight bytes: start (2), end (2), handler (2), catch type (2); catch types are not read
abbrev pub entries : List ℕ → ℕ
entries table = length table / 8

abbrev pub start_of : List ℕ → ℕ → ℕ
start_of table i = be16 table (8 * i)

abbrev pub end_of : List ℕ → ℕ → ℕ
end_of table i = be16 table (8 * i + 2)

-- 0 where there is no entry i
unfoldable pub handler_of : List ℕ → ℕ → ℕ
handler_of table i = refuse (ltb i (entries table)) 0 (be16 table (8 * i + 4))

-- handler ranges have an inclusive start and an exclusive end
unfoldable pub covers : List ℕ → ℕ → ℕ → Bool
covers table offset i = leb (start_of table i) offset && ltb offset (end_of table i)

-- the first that covers an instruction wins; the number of entries where none does
unfoldable pub covered_by : List ℕ → ℕ → ℕ
covered_by table offset = first_below (entries table) (covers table offset)
