-- Demand 3 as a user of the library reads it: over the results of calls, each of which is what its contract says. What a call of fresh or step gives is an R, and
-- `of` reads it in the document's numbers.
use Rattle.std.specs.Prelude.{List, [], ◌∷◌, ◌≡◌, Bool, ℕ, Ok}
use Rattle.verdicts.specs.declared.Verdict.{Verdict}
use Rattle.verdicts.specs.Numbers.{judgement}
use Rattle.verifier.specs.Verdict.{verdict_of}
use Rattle.state.specs.declared.State.{State}
use Rattle.turns.specs.Stepped.{Stepped, stepped_in}
use Rattle.machine.specs.Machine.{fresh_of, step_of}
use Rattle.soundness.specs.Sound.{Safe, Sound}

-- a call of step: the thread, whether an allocation fails, and what came back
pub record Call (R : Type 0) : Type 0 where
  pub who : ℕ
  pub fails : Bool
  pub result : R

module _ {R : Type 0} (of : R → Stepped) where
  -- the contract of step, of a call that was passed the state s
  abbrev pub Answered : List ℕ → State → Call R → Type 0
  Answered b s c = of c.result ≡ step_of b s c.who c.fails

  -- calls, each of which was passed the state that the one before gave back
  unfoldable pub Called : List ℕ → State → List (Call R) → Type 0
  Called b s [] = Unit
  Called b s (c ∷ cs) = Answered b s c × Called b (of c.result).state cs

  -- the state that the last of them gave back
  unfoldable pub given : State → List (Call R) → State
  given s [] = s
  given s (c ∷ cs) = given (of c.result).state cs

  -- a call that was passed the state s is sound, and the state that it gave back is safe
  abbrev pub Served : List ℕ → State → Call R → Type 0
  Served b s c = Sound s c.who (of c.result).answer (of c.result).state × Safe b (of c.result).state

  -- fresh(b) gave f, and calls of step followed, each passed the state that the one before gave back: one more call is served as demand 3 says
  abbrev pub AllServed : List ℕ → Type 0
  AllServed b =
      (f : R) → of f ≡ fresh_of b
      → (cs : List (Call R)) → Called b (of f).state cs
      → (c : Call R) → Answered b (given (of f).state cs) c
      → Served b (given (of f).state cs) c

-- .. where verify(b) gave a class count
abbrev pub CallsServed : Type 0
CallsServed = (b : List ℕ) (n : ℕ) → judgement (Ok n) ≡ verdict_of b → AllServed stepped_in b

-- .. and of the numbers themselves, where the verdict's is 0
abbrev pub NumbersServed : Type 0
NumbersServed = (b : List ℕ) (v : Verdict) → v ≡ verdict_of b → v.number ≡ 0 → AllServed (λ r. r) b
