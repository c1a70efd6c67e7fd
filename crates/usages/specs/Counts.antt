-- Source 000, appendix A: the two numbers of a usage, by the expressions MinExp and FinExp.
use Rattle.std.specs.Prelude.{cond, ℤ, pos, ◌+ℤ◌, ◌-ℤ◌}
use Rattle.std.specs.Int.Signed.{le_z}
use Rattle.usages.specs.Usage.{Usage, done, lock, unlock, either, both}

-- the lesser and the greater of two integers, the paper's min and max
unfoldable pub least : ℤ → ℤ → ℤ
least a b = cond (le_z a b) a b

unfoldable pub most : ℤ → ℤ → ℤ
most a b = cond (le_z a b) b a

-- MinExp: how far the count may go, from 0; never above 0
unfoldable pub min_of : Usage → ℤ
min_of done = pos 0
min_of (lock u) = least (pos 0) (min_of u +ℤ pos 1)
min_of (unlock u) = min_of u -ℤ pos 1
min_of (either u v) = least (min_of u) (min_of v)
min_of (both u v) = min_of u +ℤ min_of v

-- FinExp: the greatest count at the end, from 0
unfoldable pub fin_of : Usage → ℤ
fin_of done = pos 0
fin_of (lock u) = fin_of u +ℤ pos 1
fin_of (unlock u) = fin_of u -ℤ pos 1
fin_of (either u v) = most (fin_of u) (fin_of v)
fin_of (both u v) = fin_of u +ℤ fin_of v
