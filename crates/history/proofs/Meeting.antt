-- What the code reads of a live thread is what it meets; and the four bytes that it meets are the instruction that the machine runs.
use mathlib.Core.Path.{◌≡◌, refl, ap}
use mathlib.Core.Bool.{true, false, not}
use mathlib.Core.List.{List}
use Prim.Native.Nat.{ℕ}
use Rattle.ground.proofs.Bools.{passed}
use Rattle.instructions.specs.declared.Code.{Code}
use Rattle.instructions.specs.Table.{decoded}
use Rattle.bundle.specs.declared.Class.{Class}
use Rattle.bundle.specs.Container.{class_at, part_of, code_at, instruction_at}
use Rattle.bundle.specs.Program.{method_of, method_at, program_of}
use Rattle.threads.specs.declared.Thread.{Thread}
use Rattle.state.specs.declared.State.{State}
use Rattle.state.specs.State.{thread_at}
use Rattle.machine.proofs.Refusals.{instruction_here}
use Rattle.history.specs.Met.{Object}
use Rattle.history.specs.Meeting.{object_met, code_here, instruction_met, met_of}

module _ (b : List ℕ) (s : State) (i : ℕ) where
  pub met-is : {t : Thread} {k : Class} {r : List ℕ} {x : Code} {o : Object} → t ≡ thread_at s i → not t.live ≡ false
      → k ≡ class_at b t.class → r ≡ part_of b (class_at b t.class) → x ≡ code_at k r t.at.0 → o ≡ object_met t x
      → record { instruction = x; object = o } ≡ met_of b s i
  unfolding instruction_met code_here
  met-is et el ek er ex eo = rw (passed (ap (λ (t : Thread). t.live) et) el, eo, ex, er, ek, et)

  pub met-live : (thread_at s i).live ≡ true → instruction_met b (thread_at s i) ≡ code_here b (thread_at s i)
  unfolding instruction_met
  met-live a = rw a

  pub met_runs : decoded (code_here b (thread_at s i)) ≡ instruction_here b s i
  unfolding code_here program_of method_at method_of instruction_at
  met_runs = refl
