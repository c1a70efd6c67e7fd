-- Why a run stands still, for those who ask: a waiting thread waits for an object that another live thread holds, and under a lock order levels strictly fall along that chain, so it never comes back to its start.
use Rattle.std.specs.Prelude.{List, [], ◌∷◌, ◌≡◌, ◌≢◌, Bool, ℕ, ◌<◌}
use Rattle.instructions.specs.declared.Addr.{Addr}
use Rattle.instructions.specs.declared.Var.{Var}
use Rattle.instructions.specs.declared.Instruction.TheVariants.{Enter}
use Rattle.verifier.specs.Verdict.{verdict_of}
use Rattle.order.specs.Order.{level_of}
use Rattle.order.specs.Verdict.{ordered_verdict_of}
use Rattle.values.specs.Values.{ref_slot}
use Rattle.threads.specs.Threads.{var_of}
use Rattle.state.specs.declared.State.{State}
use Rattle.state.specs.State.{thread_at, class_of}
use Rattle.machine.specs.Runs.{Step, answer, reached}
use Rattle.soundness.specs.Sound.{held_by, next}
use Rattle.progress.specs.Progress.{Lives}

-- thread t waits: it lives, and its next step answers 3
pub record Waits (b : List ℕ) (s : State) (t : ℕ) : Type 0 where
  pub lives : Lives s t
  pub fails : Bool
  pub answers : answer b s (record { who = t; fails = fails }) ≡ 3

-- .. for the object o: it stands at a monitorenter of a variable that refers to o
pub record WaitsFor (b : List ℕ) (s : State) (t o : ℕ) : Type 0 where
  pub waits : Waits b s t
  pub variable : Var
  pub handler : Addr
  pub enters : next b s t ≡ Enter variable handler
  pub refers : var_of (thread_at s t) variable.0 ≡ ref_slot o

-- another live thread than t holds o
pub record HeldUp (s : State) (t o : ℕ) : Type 0 where
  pub holder : ℕ
  pub other : holder ≢ t
  pub lives : Lives s holder
  pub holds : 0 < held_by s holder o

-- a waiting thread waits for an object that another live thread holds: `waiting-held`
abbrev pub WaitingHeld : Type 0
WaitingHeld =
    (b : List ℕ) → (verdict_of b).number ≡ 0 → (xs : List Step)
    → (t : ℕ) → Waits b (reached b xs) t
    → (o : ℕ) × WaitsFor b (reached b xs) t o × HeldUp (reached b xs) t o

-- .. and levels strictly fall along that chain: thread t waits for o, thread u holds o and waits for p: `levels-fall`
abbrev pub LevelsFall : Type 0
LevelsFall =
    (b levels : List ℕ) → (ordered_verdict_of b levels).number ≡ 0 → (xs : List Step)
    → (t u o p : ℕ) → WaitsFor b (reached b xs) t o → 0 < held_by (reached b xs) u o → WaitsFor b (reached b xs) u p
    → level_of levels (class_of (reached b xs) p) < level_of levels (class_of (reached b xs) o)

-- .. so two threads never wait for each other: `never-each-other`
abbrev pub NeverEachOther : Type 0
NeverEachOther =
    (b levels : List ℕ) → (ordered_verdict_of b levels).number ≡ 0 → (xs : List Step)
    → (t u o p : ℕ) → WaitsFor b (reached b xs) t o → 0 < held_by (reached b xs) u o
    → WaitsFor b (reached b xs) u p → 0 < held_by (reached b xs) t p → ⊥

-- a chain from thread t to thread u, of objects and threads: t waits for the first object, which the first thread holds, which waits for the next object, and so on; u is the last thread
abbrev pub Chain : List ℕ → State → ℕ → ℕ → List (ℕ × ℕ) → Type 0
Chain b s t u [] = t ≡ u
Chain b s t u ((o, v) ∷ l) = WaitsFor b s t o × (0 < held_by s v o) × Chain b s v u l

-- .. nor do more of them: no chain comes back to its start: `no-circle`
abbrev pub NoCircle : Type 0
NoCircle =
    (b levels : List ℕ) → (ordered_verdict_of b levels).number ≡ 0 → (xs : List Step)
    → (t : ℕ) (x : ℕ × ℕ) (l : List (ℕ × ℕ)) → Chain b (reached b xs) t t (x ∷ l) → ⊥
