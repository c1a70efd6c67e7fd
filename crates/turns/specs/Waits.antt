-- Document 01, the machine: what an instruction of thread i, which is t, waits for (3 or 4), and 0 where it doesn't wait.
use Rattle.std.specs.Prelude.{ℕ, List, cond, ltb}
use Rattle.instructions.specs.declared.Var.{Var}
use Rattle.instructions.specs.declared.Instruction.{Instruction}
use Rattle.instructions.specs.declared.Instruction.TheVariants.{Inc, Pop, Push0, Load, Store, If, Enter, Exit, New, Start, Throw, Return, Get, Put, Nothing}
use Rattle.values.specs.Values.{is_null}
use Rattle.threads.specs.declared.Thread.{Thread}
use Rattle.threads.specs.Threads.{var_of}
use Rattle.state.specs.declared.State.{State}
use Rattle.state.specs.State.{others_free, lowest_free}
use Rattle.turns.specs.Answers.{test}
use Rattle.turns.specs.Faults.{lock_of}

-- monitorenter, where another thread's count is above zero: 3; null is no object, and never waits (document 02, Q-8)
abbrev pub enter_wait : List ℕ → ℕ → Thread → Var → ℕ
enter_wait counts i t v = cond (is_null (var_of t v.0)) 0 (test (others_free counts i (lock_of t v)) 3 0)

-- start, at eight live threads: 4
abbrev pub start_wait : State → ℕ
start_wait s = test (ltb (lowest_free s) 8) 4 0

abbrev pub wait_of : State → ℕ → Thread → Instruction → ℕ
wait_of s i t Inc = 0
wait_of s i t Pop = 0
wait_of s i t Push0 = 0
wait_of s i t (Load v) = 0
wait_of s i t (Store v) = 0
wait_of s i t (If a) = 0
wait_of s i t (Enter v h) = enter_wait s.counts i t v
wait_of s i t (Exit v) = 0
wait_of s i t (New c h) = 0
wait_of s i t (Start c) = start_wait s
wait_of s i t (Throw h) = 0
wait_of s i t Return = 0
wait_of s i t (Get c f h) = 0
wait_of s i t (Put c f h) = 0
wait_of s i t Nothing = 0
