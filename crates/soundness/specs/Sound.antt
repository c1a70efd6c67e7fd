-- Demand 3: what holds for an accepted bundle, a fresh machine and any list of steps, each a thread and whether an allocation fails.
use Rattle.std.specs.Prelude.{List, ◌≡◌, ◌⊎◌, ◌≢◌, true, false, ℕ, ◌<◌, ◌≤◌}
use Rattle.instructions.specs.declared.Instruction.TheVariants.{Exit}
use Rattle.instructions.specs.declared.Var.{Var}
use Rattle.instructions.specs.declared.Instruction.{Instruction}
use Rattle.bundle.specs.Program.{program_of}
use Rattle.values.specs.Values.{object_of}
use Rattle.threads.specs.Threads.{var_of}
use Rattle.state.specs.declared.State.{State}
use Rattle.state.specs.State.{thread_at, count_of}
use Rattle.verifier.specs.Verdict.{verdict_of}
use Rattle.machine.specs.Runs.{Step, answer, after, reached}

-- thread t's count of object o
abbrev pub held_by : State → ℕ → ℕ → ℕ
held_by s t o = count_of s.counts t o

-- the next instruction of thread t
abbrev pub next : List ℕ → State → ℕ → Instruction
next b s t = ((program_of b).method (thread_at s t).class).instruction (thread_at s t).at.0

-- one clause of the demand a field: of a state s that is reached
pub record Safe (b : List ℕ) (s : State) : Type 0 where
  -- no thread leaves a lock it does not hold
  pub leaves_held : (t : ℕ) (v : Var) → t < 8 → (thread_at s t).live ≡ true → next b s t ≡ Exit v
      → 0 < held_by s t (object_of (var_of (thread_at s t) v.0))
  -- a thread that isn't live holds nothing
  pub idle_free : (t o : ℕ) → t < 8 → o < 32 → (thread_at s t).live ≡ false → held_by s t o ≡ 0
  -- no object is held by two threads
  pub one_holder : (t u o : ℕ) → t < 8 → u < 8 → o < 32 → t ≢ u → 0 < held_by s t o → held_by s u o ≡ 0
  -- no count passes 2,016
  pub bounded : (t o : ℕ) → t < 8 → o < 32 → held_by s t o ≤ 2016

-- .. and of a step of thread t from there, which answered n and gave the state u
pub record Sound (s : State) (t n : ℕ) (u : State) : Type 0 where
  -- no step is a fault, nor 17 or 18
  pub no_fault : n ≤ 5
  -- a thread that ends, by return or uncaught exception, held nothing and holds nothing then
  pub ends_free : (n ≡ 1) ⊎ (n ≡ 2) → (o : ℕ) → o < 32 → (held_by s t o ≡ 0) × (held_by u t o ≡ 0)

-- DEMAND 3: for an accepted bundle, a fresh machine and any list of steps, the state that is reached is safe, and one more step is sound
abbrev pub Demand3 : Type 0
Demand3 =
    (b : List ℕ) → (verdict_of b).number ≡ 0 → (xs : List Step)
    → Safe b (reached b xs) × ((x : Step) → Sound (reached b xs) x.who (answer b (reached b xs) x) (after b (reached b xs) x))
