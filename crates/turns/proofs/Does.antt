-- A live thread does the instruction at its address.
use mathlib.Core.Path.{◌≡◌, refl, sym, ◌∙◌}
use mathlib.Core.Bool.{Bool, not, false}
use mathlib.Core.List.{List}
use Prim.Native.Nat.{ℕ, ◌<◌}
use borrow.Author.Tests.{lt-ltb}
use Rattle.ground.proofs.Bools.{passed}
use Rattle.ground.proofs.Chain.{went_on_lem}
use Rattle.instructions.specs.declared.Instruction.{Instruction}
use Rattle.bundle.specs.declared.Class.{Class}
use Rattle.bundle.specs.Container.{class_at, part_of, instruction_at}
use Rattle.bundle.specs.Program.{Method, method_of, method_at, program_of}
use Rattle.threads.specs.declared.Thread.{Thread}
use Rattle.state.specs.declared.State.{State}
use Rattle.turns.specs.Stepped.{Stepped}
use Rattle.turns.specs.Exec.{exec_of, run_of, turn_of}

-- of its method only the limits are read
pub does : (b : List ℕ) (s : State) (i : ℕ) (t : Thread) (fails : Bool) {k : Class} {r : List ℕ} {x : Instruction} {y : Stepped} → not t.live ≡ false
    → t.at.0 < 65535 → k ≡ class_at b t.class → r ≡ part_of b (class_at b t.class) → x ≡ instruction_at k r t.at.0
    → ((m : Method) → m.limit ≡ k.limit → m.vars ≡ k.vars → y ≡ exec_of (program_of b) s i t m fails x) → y ≡ turn_of (program_of b) s i t fails
unfolding run_of program_of method_at method_of
does b s i t fails {k} {r} f n ek er ex ey =
    ey (method_of k r) refl refl ∙ (rw (ex, er, ek)) ∙ sym (went_on_lem _ _ (passed refl f) ∙ went_on_lem _ _ (lt-ltb _ _ n))
