-- All rows of a method as the code asks them: each variable through all rows, then depth and stack row by row. `proofs/Columns` shows that they are all formed or not as rows.
use Rattle.std.specs.Prelude.{Bool, ◌&&◌, List, ℕ, ◌+◌, leb}
use Rattle.ground.specs.Bounded.{all_below}
use Rattle.bundle.specs.declared.Class.{Class}
use Rattle.rows.specs.Rows.{Row, row_at}
use Rattle.forms.specs.Forms.{var_formed, stack_formed, row_formed}

-- depth and stack of a row
unfoldable pub rest_formed : ℕ → Row → Bool
rest_formed limit x = leb x.depth limit && stack_formed limit x

-- .. of the row of the address l + 1
abbrev pub rest_of : ℕ → Class → List ℕ → ℕ → Bool
rest_of n k r l = rest_formed k.limit (row_at n k r (l + 1))

-- variable i in the row of the address l + 1
abbrev pub place_formed : ℕ → Class → List ℕ → ℕ → ℕ → Bool
place_formed n k r i l = var_formed (row_at n k r (l + 1)) i

-- .. in every row
unfoldable pub column_formed : ℕ → Class → List ℕ → ℕ → Bool
column_formed n k r i = all_below k.code (place_formed n k r i)

-- 8 at no address
unfoldable pub rows_formed : ℕ → Class → List ℕ → Bool
rows_formed n k r = all_below k.code (λ l. row_formed k.vars k.limit (row_at n k r (l + 1)))
