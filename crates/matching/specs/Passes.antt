-- An edge as the code goes along it: the variables of two rows, then one entry that comes on top, then the rest of the stack. `proofs/Edges` shows that this is the edge's first comparison that isn't 0.
use Rattle.std.specs.Prelude.{cond, ℕ, ◌+◌, ◌-◌, eqb}
use Rattle.entries.specs.Fits.{compare, want}
use Rattle.rows.specs.Rows.{Row}
use Rattle.matching.specs.Matching.{then_short, first_short}

-- variable i of row x against the next row's
abbrev pub var_short : Row → Row → ℕ → ℕ
var_short x y i = compare (x.variable i) (want (y.variable i))

-- .. where the comparison at v gave w
abbrev pub other_short : ℕ → ℕ → Row → Row → ℕ → ℕ
other_short v w x y i = cond (eqb i v) w (var_short x y i)

-- a entries gone from the top, b come in their stead
abbrev pub rest_short : ℕ → ℕ → Row → Row → ℕ → ℕ
rest_short a b x y j = compare (x.stack (a + j)) (want (y.stack (b + j)))

unfoldable pub vars_pass : ℕ → Row → Row → ℕ
vars_pass vars x y = first_short vars (var_short x y)

unfoldable pub others_pass : ℕ → ℕ → ℕ → Row → Row → ℕ
others_pass vars v w x y = first_short vars (other_short v w x y)

unfoldable pub rest_pass : ℕ → ℕ → Row → Row → ℕ
rest_pass a b x y = first_short (x.depth - a) (rest_short a b x y)

-- the comparison at the new top gave t (0 where there is none)
unfoldable pub pass : ℕ → ℕ → ℕ → ℕ → Row → Row → ℕ
pass vars a b t x y = then_short (vars_pass vars x y) (then_short t (rest_pass a b x y))

unfoldable pub pass_but : ℕ → ℕ → ℕ → ℕ → ℕ → ℕ → Row → Row → ℕ
pass_but vars v w a b t x y = then_short (others_pass vars v w x y) (then_short t (rest_pass a b x y))
