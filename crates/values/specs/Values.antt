-- Document 01, the machine: values are 32-bit signed integers or references, and null (document 02, Q-8); inc wraps; `if` jumps on a value that isn't 0.
use Rattle.std.specs.Prelude.{Bool, true, false, cond, not, ℕ, ◌-◌, ltb, eqb, ℤ, pos, negsuc, ◌+ℤ◌}
use Rattle.values.specs.declared.Value.{Value}
use Rattle.values.specs.declared.Value.TheVariants.{Int, Ref, Null}
use Rattle.values.specs.declared.Slot.{Slot}

abbrev pub is_pos : ℕ → ℤ → Bool
is_pos m (pos n) = eqb n m
is_pos m (negsuc n) = false

-- one more, and -2147483648 after 2147483647
abbrev pub inc_of : ℤ → ℤ
inc_of z = cond (is_pos 2147483647 z) (negsuc 2147483647) (z +ℤ pos 1)

abbrev pub slot : Value → Slot
slot v = record { value = v }

-- integer 0: what a place that is not in use becomes
abbrev pub zero_slot : Slot
zero_slot = slot (Int (pos 0))

abbrev pub ref_slot : ℕ → Slot
ref_slot o = slot (Ref o)

abbrev pub null_slot : Slot
null_slot = slot Null

-- the number that 32 bits stand for, in two's complement
abbrev pub number_of : ℕ → ℤ
number_of w = cond (ltb w 2147483648) (pos w) (negsuc (4294967295 - w))

abbrev pub int_slot : ℕ → Slot
int_slot w = slot (Int (number_of w))

-- the 32 bits that stand for a number
abbrev pub bits_of : ℤ → ℕ
bits_of (pos n) = n
bits_of (negsuc n) = 4294967295 - n

abbrev pub bits_of_value : Value → ℕ
bits_of_value (Int z) = bits_of z
bits_of_value (Ref o) = 0
bits_of_value Null = 0

-- the bits of the integer in the slot, 0 for a reference and null
abbrev pub bits_of_slot : Slot → ℕ
bits_of_slot x = bits_of_value x.value

abbrev pub is_int_value : Value → Bool
is_int_value (Int z) = true
is_int_value (Ref o) = false
is_int_value Null = false

-- the slot holds an integer
abbrev pub is_int : Slot → Bool
is_int x = is_int_value x.value

abbrev pub is_null_value : Value → Bool
is_null_value (Int z) = false
is_null_value (Ref o) = false
is_null_value Null = true

-- .. or null
abbrev pub is_null : Slot → Bool
is_null x = is_null_value x.value

abbrev pub is_ref_value : Value → Bool
is_ref_value (Int z) = false
is_ref_value (Ref o) = true
is_ref_value Null = false

-- .. or a reference to an object
abbrev pub is_ref : Slot → Bool
is_ref x = is_ref_value x.value

abbrev pub object_of_value : Value → ℕ
object_of_value (Int z) = 0
object_of_value (Ref o) = o
object_of_value Null = 0

-- the object that the slot refers to, 0 for an integer and null
abbrev pub object_of : Slot → ℕ
object_of x = object_of_value x.value

abbrev pub inc_value : Value → Value
inc_value (Int z) = Int (inc_of z)
inc_value (Ref o) = Ref o
inc_value Null = Null

abbrev pub inc_slot : Slot → Slot
inc_slot x = slot (inc_value x.value)

abbrev pub jumps_value : Value → Bool
jumps_value (Int z) = not (is_pos 0 z)
jumps_value (Ref o) = false
jumps_value Null = false

-- `if` jumps on an integer that isn't 0
abbrev pub jumps : Slot → Bool
jumps x = jumps_value x.value

abbrev pub refers_value : ℕ → Value → Bool
refers_value objects (Int z) = true
refers_value objects (Ref o) = ltb o objects
refers_value objects Null = true

-- the slot is no reference to no object
abbrev pub refers : ℕ → Slot → Bool
refers objects x = refers_value objects x.value
