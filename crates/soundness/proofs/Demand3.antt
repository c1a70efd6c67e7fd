-- Demand 3, by the invariant `Inv`, which every step keeps.
use Prim.Native.Nat.{ℕ}
use mathlib.Core.Path.{◌≡◌}
use mathlib.Core.List.{List, [], ◌∷◌}
use mathlib.Core.Bool.{Bool, true, ◌&&◌}
use native.Mathlib.Omega.{arith}
use lib.Dec.{ltb}
use borrow.Author.Tests.{ltb-true, eq-eqb}
use Rattle.ground.specs.Chain.{refuse}
use Rattle.ground.proofs.Bools.{and-fst, and-snd, never}
use Rattle.bundle.specs.Program.{program_of}
use Rattle.structure.specs.Structure.{structure_of}
use Rattle.rows.specs.Typed.{Typed, typed_of}
use Rattle.verifier.specs.Verdict.{verdict_of}
use Rattle.verifier.proofs.FirstBroken.{agrees_back}
use Rattle.state.specs.declared.State.{State}
use Rattle.state.specs.State.{thread_at}
use Rattle.machine.specs.Machine.{readable, fresh_of, step_of}
use Rattle.machine.specs.Runs.{Step, answer, after, run, reached}
use Rattle.machine.proofs.Refusals.{refuses}
use Rattle.soundness.specs.Sound.{Safe, Sound, Demand3}
use Rattle.soundness.specs.Invariant.{Inv}
use Rattle.soundness.proofs.Verified.{accepted}
use Rattle.soundness.proofs.Invariant.{bounded, state-ok}
use Rattle.soundness.proofs.Moves.{Good, given}
use Rattle.soundness.proofs.Fresh.{inv-fresh}
use Rattle.soundness.proofs.Steps.{run-good, exit-held}

module _ (b : List ℕ) (e : (verdict_of b).number ≡ 0) where
  abbrev pub P : Typed
  P = typed_of b

  can-read : readable b ≡ true
  can-read = eq-eqb (structure_of b).number 0 (agrees_back b e)

  -- THEOREM: every step, of any thread number, is good
  pub step-good : (s : State) → Inv P s → (i : ℕ) (fails : Bool) → Good P s i (step_of b s i fails)
  unfolding step_of
  step-good s inv i fails =
      refuses (Good P s i) s (readable b) 17 _ (λ f. never can-read f)
      (λ _. refuses (Good P s i) s _ 18 _ (λ f. never (state-ok P (accepted b e) s inv) f)
      (λ _. refuses (Good P s i) s (ltb i 8 && (thread_at s i).live) 5 _ (λ _. given P s i 5 (omega arith) (omega arith) inv)
      (λ f. run-good P (accepted b e) s inv i (ltb-true i 8 (and-fst (ltb i 8) _ f)) (and-snd (ltb i 8) _ f) fails)))

  -- THEOREM: every step keeps the invariant
  pub inv-after : (s : State) → Inv P s → (x : Step) → Inv P (after b s x)
  inv-after s inv x = (step-good s inv x.who x.fails).inv

  pub inv-run : (s : State) → Inv P s → (xs : List Step) → Inv P (run b s xs)
  unfolding run
  inv-run s inv [] = inv
  inv-run s inv (x ∷ xs) = inv-run (after b s x) (inv-after s inv x) xs

  -- THEOREM: the invariant holds of every state that is reached
  pub inv-reached : (xs : List Step) → Inv P (reached b xs)
  unfolding fresh_of refuse program_of
  inv-reached xs = inv-run (fresh_of b).state (rw can-read (inv-fresh P (accepted b e))) xs

  pub safe : (s : State) → Inv P s → Safe b s
  safe s inv =
      record {
        leaves_held = λ t v l a q. exit-held P (accepted b e) s inv t l a v q;
        idle_free = λ t o l k a. ((inv.thread t l).asleep a).free o k;
        one_holder = inv.whole.one_holder;
        bounded = λ t o l k. bounded P (accepted b e) s inv t o l k;
      }

  pub sound : (s : State) → Inv P s → (x : Step) → Sound s x.who (answer b s x) (after b s x)
  sound s inv x = let good = step-good s inv x.who x.fails in record { no_fault = good.quiet; ends_free = good.ends }

-- THEOREM, demand 3
pub demand-3 : Demand3
demand-3 b e xs = let inv = inv-reached b e xs in (safe b e (reached b xs) inv, λ x. sound b e (reached b xs) inv x)
