-- Which steps answer 3: a monitorenter on an object that another thread holds, and no other.
use mathlib.Core.Path.{◌≡◌, refl}
use mathlib.Core.Logic.{◌≢◌}
use mathlib.Core.List.{List}
use mathlib.Core.Bool.{Bool, true, false, cond}
use Prim.Native.Nat.{ℕ, ◌<◌}
use native.Mathlib.Omega.{arith}
use lib.Dec.{ltb}
use Rattle.ground.specs.Chain.{refuse}
use Rattle.instructions.specs.declared.Addr.{Addr}
use Rattle.instructions.specs.declared.Var.{Var}
use Rattle.instructions.specs.declared.Instruction.{Instruction}
use Rattle.instructions.specs.declared.Instruction.TheVariants.{Inc, Pop, Push0, Load, Store, If, Enter, Exit, New, Start, Throw, Return, Get, Put, Nothing}
use Rattle.bundle.specs.Program.{program_of}
use Rattle.rows.specs.Typed.{typed_of}
use Rattle.verifier.specs.Verdict.{verdict_of}
use Rattle.values.specs.Values.{is_null}
use Rattle.threads.specs.declared.Thread.{Thread}
use Rattle.threads.specs.Threads.{var_of}
use Rattle.state.specs.declared.State.{State}
use Rattle.state.specs.State.{thread_at, others_free, lowest_free}
use Rattle.turns.specs.Stepped.{Stepped}
use Rattle.turns.specs.Answers.{refused, test}
use Rattle.turns.specs.Faults.{lock_of}
use Rattle.turns.specs.Waits.{wait_of}
use Rattle.turns.specs.Exec.{run_of}
use Rattle.machine.specs.Machine.{step_of}
use Rattle.machine.proofs.Refusals.{refuses, draws, method_here}
use Rattle.machine.proofs.Kept.{moves}
use Rattle.soundness.specs.Sound.{next}
use Rattle.soundness.proofs.Verified.{accepted}
use Rattle.soundness.specs.Invariant.{Inv}
use Rattle.soundness.proofs.Steps.{no_fault}
use Rattle.progress.specs.Progress.{Lives}

-- ---- an instruction x of thread i, which is t, that waits for an object
pub record Waiting (s : State) (i : ℕ) (t : Thread) (x : Instruction) : Type 0 where
  pub variable : Var
  pub handler : Addr
  pub enters : x ≡ Enter variable handler
  pub not_null : is_null (var_of t variable.0) ≡ false
  pub held : others_free s.counts i (lock_of t variable) ≡ false

lock-held : (null free : Bool) → cond null 0 (test free 3 0) ≡ 3 → (null ≡ false) × (free ≡ false)
unfolding refuse
lock-held true free e = absurd (omega arith)
lock-held false true e = absurd (omega arith)
lock-held false false e = (refl, refl)

no_start : {A : Type 0} (free : Bool) → test free 4 0 ≡ 3 → A
unfolding refuse
no_start true e = absurd (omega arith)
no_start false e = absurd (omega arith)

waiting : (s : State) (i : ℕ) (t : Thread) (x : Instruction) → wait_of s i t x ≡ 3 → Waiting s i t x
waiting s i t Inc e = absurd (omega arith)
waiting s i t Pop e = absurd (omega arith)
waiting s i t Push0 e = absurd (omega arith)
waiting s i t (Load v) e = absurd (omega arith)
waiting s i t (Store v) e = absurd (omega arith)
waiting s i t (If a) e = absurd (omega arith)
waiting s i t (Enter v h) e =
    let z = lock-held (is_null (var_of t v.0)) (others_free s.counts i (lock_of t v)) e in
    record { variable = v; handler = h; enters = refl; not_null = z.0; held = z.1 }
waiting s i t (Exit v) e = absurd (omega arith)
waiting s i t (New c h) e = absurd (omega arith)
waiting s i t (Start c) e = no_start (ltb (lowest_free s) 8) e
waiting s i t (Throw h) e = absurd (omega arith)
waiting s i t Return e = absurd (omega arith)
waiting s i t (Get c f h) e = absurd (omega arith)
waiting s i t (Put c f h) e = absurd (omega arith)
waiting s i t Nothing e = absurd (omega arith)

-- ---- a step that answers 3 is of such an instruction
module _ (b : List ℕ) (e : (verdict_of b).number ≡ 0) (s : State) (inv : Inv (typed_of b) s) (t : ℕ) (lt : t < 8) (lv : Lives s t) where
  record Says (r : Stepped) : Type 0 where
    says : r.answer ≡ 3 → wait_of s t (thread_at s t) (next b s t) ≡ 3

  another : (n : ℕ) → n ≢ 3 → Says (refused n s)
  another n d = record { says = λ q. absurd (d q) }

  step-says : (fails : Bool) → Says (step_of b s t fails)
  unfolding step_of run_of
  step-says fails =
      refuses Says s _ 17 _ (λ _. another 17 (omega arith))
      (λ _. refuses Says s _ 18 _ (λ _. another 18 (omega arith))
      (λ _. refuses Says s _ 5 _ (λ _. another 5 (omega arith))
      (λ _. draws Says s _ _ (λ n. absurd (n (no_fault (typed_of b) (accepted b e) s inv t lt lv fails)))
      (λ _. draws Says s _ _ (λ n. record { says = λ q. q })
      (λ _. record { says = λ q. absurd (omega (arith, q, (moves (program_of b) s t (thread_at s t) (method_here b s t) fails (next b s t)).small)) })))))

  pub answers-3 : (fails : Bool) → (step_of b s t fails).answer ≡ 3 → Waiting s t (thread_at s t) (next b s t)
  answers-3 fails q = waiting s t (thread_at s t) (next b s t) ((step-says fails).says q)

  -- .. and where it is known to be monitorenter v, waits at v
  pub enters-3 : (fails : Bool) → (step_of b s t fails).answer ≡ 3 → (v : Var) (h : Addr) → next b s t ≡ Enter v h
      → (is_null (var_of (thread_at s t) v.0) ≡ false) × (others_free s.counts t (lock_of (thread_at s t) v) ≡ false)
  enters-3 fails q v h k = lock-held _ _ (rw k at ((step-says fails).says q))
