-- Document 02, Q-4: a 32-bit word that keeps a set of numbers below 32, bit i for the number i, set and cleared by shift and mask.
use Rattle.std.specs.Prelude.{Bool, cond, not, ◌&&◌, ℕ, ◌-◌, ◌/◌, ◌%◌, ◌^◌, ltb, eqb}
use Rattle.std.specs.Int.Bits.{bit_and, bit_or}
use Rattle.ground.specs.Bounded.{all_below, count_below}

-- bit i of the word is set
unfoldable pub bit : ℕ → ℕ → Bool
bit w i = eqb (w / 2 ^ i % 2) 1

-- the word with bit i set (past bit 31 nothing changes)
unfoldable pub set_bit : ℕ → ℕ → ℕ
set_bit w i = cond (ltb i 32) (bit_or w (2 ^ i)) w

-- the word with bit i cleared
unfoldable pub clear_bit : ℕ → ℕ → ℕ
clear_bit w i = cond (ltb i 32) (bit_and w (4294967295 - 2 ^ i)) w

-- the word with bit i as a count n has it: set where the count is above zero, and else cleared
unfoldable pub marked : ℕ → ℕ → ℕ → ℕ
marked w i n = cond (eqb n 0) (clear_bit w i) (set_bit w i)

-- how many of the 32 bits are set
unfoldable pub bits_set : ℕ → ℕ
bits_set w = count_below 32 (bit w)

-- no bit is set in both
unfoldable pub apart : ℕ → ℕ → Bool
apart w v = all_below 32 (λ i. not (bit w i && bit v i))
