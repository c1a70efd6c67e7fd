-- What is printed of a value.
use Rattle.std.specs.Prelude.{List, ℕ, ◌++◌, codes, decimal}
use Rattle.std.specs.Fmt.{signed_decimal}
use Rattle.values.specs.declared.Value.{Value}
use Rattle.values.specs.declared.Value.TheVariants.{Int, Ref, Null}
use Rattle.values.specs.declared.Slot.{Slot}

abbrev pub value_text : Value → List ℕ
value_text (Int z) = codes "i" ++ signed_decimal z
value_text (Ref o) = codes "r" ++ decimal o
value_text Null = codes "null"

-- an integer as i and the number, a reference as r and the object's number, null as null
abbrev pub slot_text : Slot → List ℕ
slot_text x = value_text x.value
