-- COROLLARIES of demand 3, in terms of the calls of the library.
use mathlib.Core.List.{List, [], ◌∷◌}
use mathlib.Core.Path.{◌≡◌, sym, ap, subst}
use Prim.Native.Nat.{ℕ}
use Rattle.verdicts.specs.declared.Verdict.{Verdict}
use Rattle.verifier.specs.Verdict.{verdict_of}
use Rattle.turns.specs.Stepped.{Stepped, stepped_in}
use Rattle.soundness.specs.Sound.{Sound}
use Rattle.state.specs.declared.State.{State}
use Rattle.machine.specs.Runs.{run}
use Rattle.soundness.specs.Calls.{Call, Answered, Called, given, Served, AllServed, CallsServed, NumbersServed}
use Rattle.soundness.specs.Invariant.{Inv}
use Rattle.soundness.proofs.Demand3.{P, inv-after, inv-reached, safe, sound}

module _ {R : Type 0} (of : R → Stepped) (b : List ℕ) (e : (verdict_of b).number ≡ 0) where
  -- every call keeps the invariant
  inv-kept : (s : State) → Inv (P b e) s → (c : Call R) → Answered of b s c → Inv (P b e) (of c.result).state
  inv-kept s inv c k = subst (λ (r : Stepped). Inv (P b e) r.state) (sym k) (inv-after b e s inv (record { who = c.who; fails = c.fails }))

  inv-given : (s : State) → Inv (P b e) s → (cs : List (Call R)) → Called of b s cs → Inv (P b e) (given of s cs)
  unfolding Called given
  inv-given s inv [] k = inv
  inv-given s inv (c ∷ cs) k = inv-given (of c.result).state (inv-kept s inv c k.0) cs k.1

  served : (s : State) → Inv (P b e) s → (c : Call R) → Answered of b s c → Served of b s c
  served s inv c k = (
    subst (λ (r : Stepped). Sound s c.who r.answer r.state) (sym k) (sound b e s inv (record { who = c.who; fails = c.fails })),
    safe b e (of c.result).state (inv-kept s inv c k),
  )

  all-served : AllServed of b
  unfolding run
  all-served f p cs k c h =
      served (given of (of f).state cs) (inv-given (of f).state (subst (λ (r : Stepped). Inv (P b e) r.state) (sym p) (inv-reached b e [])) cs k) c h

-- COROLLARY
pub calls-served : CallsServed
calls-served b n q = all-served stepped_in b (sym (ap (λ (v : Verdict). v.number) q))

-- COROLLARY
pub numbers-served : NumbersServed
numbers-served b v q e = all-served (λ r. r) b (rw (← q) e)
