-- THEOREM: an answer other than 0, 1 and 2 gives back the state as given: a refusal does, and a move answers 0, 1 or 2.
use mathlib.Core.Path.{◌≡◌, refl}
use mathlib.Core.Bool.{Bool}
use mathlib.Core.List.{List}
use Prim.Native.Nat.{ℕ, ◌≤◌}
use native.Mathlib.Omega.{arith}
use lib.Dec.{eqb}
use Rattle.instructions.specs.declared.Addr.{Addr}
use Rattle.instructions.specs.declared.Instruction.{Instruction}
use Rattle.instructions.specs.declared.Instruction.TheVariants.{Inc, Pop, Push0, Load, Store, If, Enter, Exit, New, Start, Throw, Return, Get, Put, Nothing}
use Rattle.bundle.specs.Program.{Method, Program, program_of}
use Rattle.values.specs.declared.Slot.{Slot}
use Rattle.values.specs.Values.{ref_slot, is_null, jumps}
use Rattle.threads.specs.declared.Thread.{Thread}
use Rattle.threads.specs.Threads.{from_top, top_of, var_of}
use Rattle.state.specs.declared.State.{State}
use Rattle.state.specs.State.{thread_at}
use Rattle.turns.specs.Stepped.{Stepped}
use Rattle.turns.specs.Faults.{new_fails}
use Rattle.turns.specs.Moves.{throw_move, move_of}
use Rattle.machine.specs.Machine.{step_of}
use Rattle.machine.proofs.Refusals.{either, method_here, instruction_here, step_by}

-- ---- a move
pub record Moves (r : Stepped) : Type 0 where
  pub small : r.answer ≤ 2

module _ (P : Program) (s : State) (i : ℕ) (t : Thread) (m : Method) (fails : Bool) where
  went : (u : State) → Moves (record { answer = 0; state = u })
  went u = record { small = omega arith }

  throw-moves : (h : Addr) (x : Slot) → Moves (throw_move s i t m.vars h x)
  throw-moves h x = either Moves (eqb h.0 0) _ _ (λ _. record { small = omega arith }) (λ _. went _)

  pub moves : (x : Instruction) → Moves (move_of P s i t m fails x)
  moves Inc = went _
  moves Pop = went _
  moves Push0 = went _
  moves (Load v) = went _
  moves (Store v) = went _
  moves (If a) = either Moves (jumps (top_of t)) _ _ (λ _. went _) (λ _. went _)
  moves (Enter v h) = either Moves (is_null (var_of t v.0)) _ _ (λ _. throw-moves h (ref_slot 0)) (λ _. went _)
  moves (Exit v) = went _
  moves (New c h) = either Moves (new_fails s fails) _ _ (λ _. throw-moves h (ref_slot 0)) (λ _. went _)
  moves (Start c) = went _
  moves (Throw h) = throw-moves h (top_of t)
  moves Return = record { small = omega arith }
  moves (Get c f h) = either Moves (is_null (top_of t)) _ _ (λ _. throw-moves h (ref_slot 0)) (λ _. went _)
  moves (Put c f h) = either Moves (is_null (from_top t 1)) _ _ (λ _. throw-moves h (ref_slot 0)) (λ _. went _)
  moves Nothing = went _

-- ---- a step
record Kept (s : State) (r : Stepped) : Type 0 where
  kept : (r.answer ≤ 2 → ⊥) → r.state ≡ s

pub step_kept : (b : List ℕ) (s : State) (i : ℕ) (fails : Bool) → ((step_of b s i fails).answer ≤ 2 → ⊥) → (step_of b s i fails).state ≡ s
step_kept b s i fails = (step_by (Kept s) b s i fails (λ n l. record { kept = λ h. refl }) (λ _. record { kept = λ h. absurd (h moved) })).kept
  where
    moved : (move_of (program_of b) s i (thread_at s i) (method_here b s i) fails (instruction_here b s i)).answer ≤ 2
    moved = (moves (program_of b) s i (thread_at s i) (method_here b s i) fails (instruction_here b s i)).small
