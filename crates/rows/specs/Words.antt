-- An entry's four bytes as the one number that the code compares, and rows that it compares without taking their entries apart. No rule speaks of them.
use Rattle.std.specs.Prelude.{Bool, ◌&&◌, ◌||◌, List, ℕ, ◌+◌, ◌*◌, ◌-◌, ltb, leb, eqb, length}
use Rattle.ground.specs.Bounded.{all_below}
use Rattle.ground.specs.Bytes.{quad}
use Rattle.ground.specs.Chain.{refuse}
use Rattle.bundle.specs.declared.Class.{Class}

-- variable i's, in a row that begins at s
unfoldable pub variable_word : List ℕ → ℕ → ℕ → ℕ
variable_word r s i = quad r (s + 4 * i)

-- the stack entry j's, behind V variable entries and the depth
unfoldable pub stack_word : List ℕ → ℕ → ℕ → ℕ → ℕ
stack_word r s vars j = quad r (s + 4 * vars + 1 + 4 * j)

-- .. and 0 where there is none
unfoldable pub entry_word : Class → List ℕ → ℕ → ℕ → ℕ
entry_word k r s j = refuse (ltb j k.limit) 0 (stack_word r s k.vars j)

-- the entry of variable i is the same four bytes in the rows that begin at p and at q, or it is v's
abbrev pub same_or_named : List ℕ → ℕ → ℕ → ℕ → ℕ → Bool
same_or_named r p q v i = eqb i v || eqb (variable_word r p i) (variable_word r q i)

-- n variables, all there, are the same bytes in both rows, all but the variable v
unfoldable pub same_but : List ℕ → ℕ → ℕ → ℕ → ℕ → Bool
same_but r p q n v = leb (4 * n) (length r) && leb p (length r - 4 * n) && leb q (length r - 4 * n) && all_below n (same_or_named r p q v)

-- .. and all of them, since none has the number n
abbrev pub vars_same : List ℕ → ℕ → ℕ → ℕ → Bool
vars_same r p q vars = same_but r p q vars vars
