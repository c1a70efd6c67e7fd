-- Document 02, Q-9: the first offender of refusals 31, 33 and 34, by its offset; the code's length where there is none.
use Rattle.std.specs.Prelude.{Bool, ◌&&◌, not, List, ℕ, ◌+◌, length, ltb}
use Rattle.ground.specs.Bounded.{first_below}
use Rattle.java.specs.Instructions.{java_at}
use Rattle.java.specs.Classes.{known}
use Rattle.offsets.specs.Offsets.{begins, count_to}

-- 31: opcode not taken, cut off, or class not in the list, at offset p
unfoldable pub unknown_at : List ℕ → List ℕ → ℕ → Bool
unknown_at classes code p = begins code p && not (known classes (java_at code p))

unfoldable pub first_unknown : List ℕ → List ℕ → ℕ
first_unknown classes code = first_below (length code) (unknown_at classes code)

-- 33, 34: of the instructions written for what begins at offset p or before, there are more than the limit
unfoldable pub past_at : List ℕ → ℕ → ℕ → Bool
past_at code limit p = ltb limit (count_to code (p + 1))

-- the first that doesn't fit; an iinc that fits in part doesn't
unfoldable pub first_past : List ℕ → ℕ → ℕ
first_past code limit = first_below (length code) (past_at code limit)
