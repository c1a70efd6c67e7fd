-- Document 01, the machine: one instruction of one thread.
use Rattle.std.specs.Prelude.{Bool, ℕ, ltb}
use Rattle.instructions.specs.declared.Instruction.{Instruction}
use Rattle.bundle.specs.Program.{Method, Program}
use Rattle.threads.specs.declared.Thread.{Thread}
use Rattle.state.specs.declared.State.{State}
use Rattle.turns.specs.Stepped.{Stepped}
use Rattle.turns.specs.Answers.{unless, unless_drawn}
use Rattle.turns.specs.Faults.{fault_of}
use Rattle.turns.specs.Waits.{wait_of}
use Rattle.turns.specs.Moves.{move_of}

-- an instruction of thread i, which is t and stands in the method m: faults by number, then 3 or 4, and then its move
abbrev pub exec_of : Program → State → ℕ → Thread → Method → Bool → Instruction → Stepped
exec_of P s i t m fails x =
    unless_drawn (fault_of P s i t m fails x) s
    (unless_drawn (wait_of s i t x) s
    (move_of P s i t m fails x))

-- the instruction at the thread's address of its class
unfoldable pub run_of : Program → State → ℕ → Thread → Bool → Stepped
run_of P s i t fails = exec_of P s i t (P.method t.class) fails ((P.method t.class).instruction t.at.0)

-- 5 where the thread isn't live; an address is below 65,535, and past that there is no instruction (17)
abbrev pub turn_of : Program → State → ℕ → Thread → Bool → Stepped
turn_of P s i t fails =
    unless t.live 5 s
    (unless (ltb t.at.0 65535) 17 s
    (run_of P s i t fails))
