-- Document 01: verdict 8, an entry or depth malformed; and row 1.
use Rattle.std.specs.Prelude.{Bool, cond, ◌&&◌, ℕ, leb, ltb, eqb}
use Rattle.ground.specs.Bounded.{all_below}
use Rattle.entries.specs.Entries.{is_top, is_blank, is_type, argument_entry}
use Rattle.entries.specs.Fits.{entry_fits}
use Rattle.rows.specs.Rows.{Row}
use Rattle.rows.specs.Typed.{Typed}

abbrev pub var_formed : Row → ℕ → Bool
var_formed x i = is_type (x.variable i)

-- in use it is a type, below the depth in use it is 0,0,0,0
unfoldable pub entry_formed : Row → ℕ → Bool
entry_formed x j = cond (ltb j x.depth) (is_type (x.stack j)) (is_blank (x.stack j))

unfoldable pub vars_formed : ℕ → Row → Bool
vars_formed vars x = all_below vars (var_formed x)

unfoldable pub stack_formed : ℕ → Row → Bool
stack_formed limit x = all_below limit (entry_formed x)

-- 8: an entry or depth (over K) malformed
unfoldable pub row_formed : ℕ → ℕ → Row → Bool
row_formed vars limit x = leb x.depth limit && vars_formed vars x && stack_formed limit x

-- argument i, as Int or as its class with (0,0), fits variable i; the other variables are Top
unfoldable pub first_var : ℕ → (ℕ → ℕ) → Row → ℕ → Bool
first_var args descriptor x i = cond (ltb i args) (entry_fits (argument_entry (descriptor i)) (x.variable i)) (is_top (x.variable i))

unfoldable pub first_vars : ℕ → ℕ → (ℕ → ℕ) → Row → Bool
first_vars vars args descriptor x = all_below vars (first_var args descriptor x)

-- 10: row 1: depth 0; and its variables
unfoldable pub first_row : ℕ → ℕ → (ℕ → ℕ) → Row → Bool
first_row vars args descriptor x = eqb x.depth 0 && first_vars vars args descriptor x

-- 8 at address l of class c, and 10 of class c, as they hold
abbrev pub formed_at : Typed → ℕ → ℕ → Bool
formed_at T c l = row_formed (T.program.method c).vars (T.program.method c).limit (T.row c l)

abbrev pub first_at : Typed → ℕ → Bool
first_at T c = first_row (T.program.method c).vars (T.program.method c).args (T.program.method c).descriptor (T.row c 1)
