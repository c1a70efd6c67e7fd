-- Document 01, the machine: the fresh machine, and one step of one thread.
use Rattle.std.specs.Prelude.{Bool, true, ◌&&◌, List, ℕ, ltb, eqb, replicate}
use Rattle.instructions.specs.Table.{addr}
use Rattle.bundle.specs.Program.{Program, program_of}
use Rattle.structure.specs.Structure.{structure_of}
use Rattle.values.specs.Values.{zero_slot}
use Rattle.threads.specs.declared.Thread.{Thread}
use Rattle.state.specs.declared.State.{State}
use Rattle.state.specs.State.{thread_at, with_thread, with_object, empty_state}
use Rattle.belongs.specs.Belongs.{state_ok}
use Rattle.turns.specs.Stepped.{Stepped}
use Rattle.turns.specs.Answers.{unless}
use Rattle.turns.specs.Moves.{first_fields}
use Rattle.turns.specs.Exec.{run_of}

-- thread 0 live at address 1 of class 0
abbrev pub main_thread : Thread
main_thread = record { live = true; class = 0; at = addr 1; depth = 0; vars = replicate 16 zero_slot; stack = replicate 16 zero_slot }

-- a fresh machine has thread 0 live at address 1 of class 0, object 0 of the exception class with its fields as new writes them, and all else 0
abbrev pub fresh_state : Program → State
fresh_state P = with_thread (with_object empty_state P.exception (first_fields (P.method P.exception))) 0 main_thread

-- the bundle draws none of verdicts 1 to 7 (else 17)
abbrev pub readable : List ℕ → Bool
readable b = eqb (structure_of b).number 0

-- 0 with the fresh machine; 17 with no live thread, no object, and all else 0
unfoldable pub fresh_of : List ℕ → Stepped
fresh_of b = unless (readable b) 17 empty_state (record { answer = 0; state = fresh_state (program_of b) })

-- the order: 17, 18, 5, faults by number, then 3 or 4
unfoldable pub step_of : List ℕ → State → ℕ → Bool → Stepped
step_of b s i fails =
    unless (readable b) 17 s
    (unless (state_ok (program_of b) s) 18 s
    (unless (ltb i 8 && (thread_at s i).live) 5 s
    (run_of (program_of b) s i (thread_at s i) fails)))
