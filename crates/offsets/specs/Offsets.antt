-- Document 02, Q-9: the code read from its first byte on: where instructions begin, and the address that an offset gets.
use Rattle.std.specs.Prelude.{Bool, cond, List, ℕ, zero, suc, ◌+◌, ◌-◌, length, eqb}
use Rattle.ground.specs.Bounded.{sum_below}
use Rattle.java.specs.Instructions.{java_at, size_at, gives_of}

-- one byte on: where nothing was left, an instruction of that size began here; else one byte less is left of the earlier one
abbrev pub left_next : ℕ → ℕ → ℕ
left_next zero size = size - 1
left_next (suc n) size = n

-- how many bytes of an instruction that began earlier are still to come at offset p
unfoldable pub left_at : List ℕ → ℕ → ℕ
left_at code zero = 0
left_at code (suc p) = left_next (left_at code p) (size_at code p)

-- offset p is the first byte of an instruction (a pair has one)
unfoldable pub begins : List ℕ → ℕ → Bool
begins code p = eqb (left_at code p) 0

-- how many instructions are written for what begins at offset p
unfoldable pub gives_at : List ℕ → ℕ → ℕ
gives_at code p = cond (begins code p) (gives_of (java_at code p)) 0

-- how many are written for what begins before offset p
unfoldable pub count_to : List ℕ → ℕ → ℕ
count_to code p = sum_below p (gives_at code)

-- all of them
unfoldable pub total : List ℕ → ℕ
total code = count_to code (length code)

-- branch targets become addresses: offset p that of the first instruction written for what begins at p or after; addresses run from 1
abbrev pub address_of : List ℕ → ℕ → ℕ
address_of code p = count_to code p + 1
