-- A word stands for a value: the 32 bits of an integer; 4294967296 and the number of an object; from 4294967552 on, null.
use Rattle.std.specs.Prelude.{cond, ℕ, ◌+◌, ◌-◌, ◌%◌, ltb}
use Rattle.values.specs.declared.Slot.{Slot}
use Rattle.values.specs.Values.{int_slot, ref_slot, null_slot}

unfoldable pub slot_of : ℕ → Slot
slot_of w = cond (ltb w 4294967296) (int_slot w) (cond (ltb w 4294967552) (ref_slot (w - 4294967296)) null_slot)

-- the object of a word that refers
abbrev pub object_in : ℕ → ℕ
object_in w = w % 256

-- one more, in 32 bits
abbrev pub inc_word : ℕ → ℕ
inc_word w = (w % 4294967296 + 1) % 4294967296
