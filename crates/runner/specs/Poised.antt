-- What is known while a list is run: the invariant of soundness, of the state that the memory is.
use Rattle.std.specs.Prelude.{◌≡◌, Bool, true, List, ℕ, ◌+◌, ◌<◌}
use Rattle.instructions.specs.declared.Instruction.{Instruction}
use Rattle.bundle.specs.Program.{Method, program_of}
use Rattle.rows.specs.Typed.{typed_of}
use Rattle.verifier.specs.Verdict.{verdict_of}
use Rattle.machine.specs.Machine.{step_of}
use Rattle.soundness.specs.Invariant.{Inv}
use Rattle.memory.specs.Tab.{tab}
use Rattle.memory.specs.Frames.{live_in, class_in, address_in}
use Rattle.runner.specs.declared.table.Row.{Row}
use Rattle.runner.specs.Table.{row_of}
use Rattle.runner.specs.declared.running.Memory.{Memory}
use Rattle.runner.specs.declared.running.Here.{Here}
use Rattle.runner.specs.Memory.{frame_of, state_from, Sized}

-- the bundle is accepted, and the memory is a state that keeps the invariant
pub record Running (b : List ℕ) (table : List Row) (m : Memory) : Type 0 where
  pub accepted : (verdict_of b).number ≡ 0
  pub tabled : table ≡ tab 8 (row_of b)
  pub sized : Sized m.frames m.fields
  pub inv : Inv (typed_of b) (state_from m)

-- .. and thread i is live
pub record Poised (b : List ℕ) (table : List Row) (m : Memory) (i : ℕ) : Type 0 where
  pub running : Running b table m
  pub thread_8 : i < 8
  pub live : live_in (frame_of m.frames i) ≡ true

-- where thread i takes its step, and the instruction there
abbrev pub method_here : List ℕ → Memory → ℕ → Method
method_here b m i = (program_of b).method (class_in (frame_of m.frames i))

abbrev pub here_of : List ℕ → Memory → ℕ → Here
here_of b m i = record { thread = i; vars = (method_here b m i).vars; next = address_in (frame_of m.frames i) + 1 }

abbrev pub instruction_here : List ℕ → Memory → ℕ → Instruction
instruction_here b m i = (method_here b m i).instruction (address_in (frame_of m.frames i))

-- the answer and the new memory are those of document 01's step of thread i
pub record Turned (b : List ℕ) (m m' : Memory) (answer i : ℕ) (fails : Bool) : Type 0 where
  pub sized : Sized m'.frames m'.fields
  pub step : record { answer = answer; state = state_from m' } ≡ step_of b (state_from m) i fails
