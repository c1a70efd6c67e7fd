-- Document 02, Q-9: class numbers, and what of an instruction refusal 31 asks.
use Rattle.std.specs.Prelude.{Bool, true, false, ◌&&◌, List, ℕ, ◌+◌, ◌*◌, length, ltb, eqb}
use Rattle.ground.specs.Bytes.{be16}
use Rattle.ground.specs.Bounded.{first_below}
use Rattle.java.specs.declared.Java.{Java}
use Rattle.java.specs.declared.Java.TheVariants.{Nop, Pop, Iconst0, Load, Store, Ifne, Enter, Exit, New, Athrow, Return, Iinc, Other}

-- place i of the lent list, two bytes a constant-pool index, is there and holds this one
unfoldable pub is_index : List ℕ → ℕ → ℕ → Bool
is_index classes index i = ltb (2 * i + 1) (length classes) && eqb (be16 classes (2 * i)) index

-- a class number is the first place, of eight read, in a lent list of constant-pool indices; 8 where there is none
unfoldable pub class_number : List ℕ → ℕ → ℕ
class_number classes index = first_below 8 (is_index classes index)

-- 31 when this fails: opcode not taken, cut off, or class not in the list
abbrev pub known : List ℕ → Java → Bool
known classes Nop = true
known classes Pop = true
known classes Iconst0 = true
known classes (Load v) = true
known classes (Store v) = true
known classes (Ifne d) = true
known classes (Enter v) = true
known classes (Exit v) = true
known classes (New i) = ltb (class_number classes i) 8
known classes Athrow = true
known classes Return = true
known classes (Iinc v) = true
known classes Other = false
