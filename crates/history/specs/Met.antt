-- What a step meets, and how the code answers it.
use Rattle.std.specs.Prelude.{ℕ, Option}
use Rattle.std.specs.Prelude as option
use Rattle.instructions.specs.declared.Code.{Code}
use Rattle.history.specs.declared.Met as code

pub data Object : Type 0 where
  None : Object
  One : ℕ → Object

-- the instruction as its four bytes, of which four zeros are none, and the object
pub record Met : Type 0 where
  pub instruction : Code
  pub object : Object

abbrev pub object_answered : Option ℕ → Object
object_answered option.None = None
object_answered (option.Some o) = One o

abbrev pub met_in : code.Met → Met
met_in m = record { instruction = m.instruction; object = object_answered m.object }
