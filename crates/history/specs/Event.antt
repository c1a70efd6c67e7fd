-- Document 02, Q-2: "the history: each step, its answer, and the instruction and object it met".
use Rattle.std.specs.Prelude.{Bool, ℕ, eqb}
use Rattle.instructions.specs.declared.Code.{Code}
use Rattle.history.specs.Met.{Met}

-- one step of the history. That the step said "new fails" is dropped; the theorem is the stronger for it, since both numbers are taken without it
pub record Event : Type 0 where
  -- the number of the thread that was to step
  pub thread : ℕ
  -- its answer
  pub answer : ℕ
  -- the instruction that it met, as its four bytes (four zeros, which are no instruction, where it met none), and the object that its monitorenter or monitorexit met (`None` where it met none)
  pub met : Met

-- by the number in the table: 7 is monitorenter, 8 is monitorexit, 10 is start
abbrev pub is_enter : Code → Bool
is_enter x = eqb x.opcode 7

abbrev pub is_exit : Code → Bool
is_exit x = eqb x.opcode 8

abbrev pub is_start : Code → Bool
is_start x = eqb x.opcode 10
