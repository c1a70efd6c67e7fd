-- What one event more says, which threads it begins, and that two tests that agree find the same first number.
use mathlib.Core.Path.{◌≡◌, refl}
use mathlib.Core.Bool.{Bool, true, false, cond, ◌&&◌}
use mathlib.Core.List.{List, ◌∷◌}
use Prim.Native.Nat.{ℕ, zero, suc, ◌+◌, ◌<◌}
use lib.Dec.{eqb}
use lib.ListN.{length, get_or, set, get_or-eq_default}
use native.Mathlib.Omega.{arith}
use native.Mathlib.Decide.{ℕ_discrete, dec_lt}
use borrow.Author.Tests.{eq-eqb, ne_eqb, not-true}
use Rattle.ground.specs.Bounded.{first_below}
use Rattle.ground.proofs.Bools.{and-false, never}
use Rattle.ground.proofs.Bounded.{first-is}
use Rattle.machine.proofs.Writes.{write-or}
use Rattle.history.specs.Event.{Event}
use Rattle.history.specs.Reading.{starts, ends, is_of, unused, taken, live_then, live_after, begins, joined, since_start, number}

-- ---- who is live
module _ (past : List Event) (e : Event) where
  pub live_on : starts e ≡ false → ends e ≡ false → live_after (e ∷ past) ≡ live_after past
  unfolding live_after live_then
  live_on p q = rw (p, q)

  pub live-ended : starts e ≡ false → ends e ≡ true → live_after (e ∷ past) ≡ set (live_after past) e.thread false
  unfolding live_after live_then
  live-ended p q = rw (p, q)

  pub live-started : starts e ≡ true → live_after (e ∷ past) ≡ set (live_after past) (taken (live_after past)) true
  unfolding live_after live_then
  live-started p = rw p

-- ---- how many since the thread started
number-joined : (such : Event → Bool) (own : Bool) (e : Event) (es : List Event) → number such (joined own e es) ≡ cond (own && such e) 1 0 + number such es
unfolding number
number-joined such true e es = refl
number-joined such false e es = omega arith

module _ (such : Event → Bool) (t : ℕ) (past : List Event) (e : Event) where
  pub begun : begins past e t ≡ true → number such (since_start t (e ∷ past)) ≡ 0
  unfolding number since_start
  begun p = rw p

  pub one_more : begins past e t ≡ false → number such (since_start t (e ∷ past)) ≡ cond (is_of t e && such e) 1 0 + number such (since_start t past)
  unfolding since_start
  one_more p = rw p (number-joined such (is_of t e) e (since_start t past))

-- ---- which threads an event begins
module _ (past : List Event) (e : Event) (t : ℕ) where
  -- one that is live with it, and was not before
  pub begins-new : get_or (live_after past) t false ≡ false → get_or (live_after (e ∷ past)) t false ≡ true → begins past e t ≡ true
  unfolding begins live_after live_then
  begins-new old = go (starts e) (ends e)
    where
      go : (a z : Bool)
          → get_or (cond a (set (live_after past) (taken (live_after past)) true) (cond z (set (live_after past) e.thread false) (live_after past))) t false ≡ true
          → (a && eqb t (taken (live_after past))) ≡ true
      go true z n =
          write-or (λ (v : Bool). v ≡ true → eqb t (taken (live_after past)) ≡ true) (live_after past) (taken (live_after past)) t true false
          (λ m. never m old) (λ q m. eq-eqb t (taken (live_after past)) q) n
      go false true n = never n (write-or (λ (v : Bool). v ≡ false) (live_after past) e.thread t false false old (λ q. refl))
      go false false n = never n old

  -- none that was live: its number is not free
  pub begins-no-live : length (live_after past) ≡ 8 → get_or (live_after past) t false ≡ true → begins past e t ≡ false
  unfolding begins taken
  begins-no-live n a = go (ℕ_discrete t (taken (live_after past))) (dec_lt (taken (live_after past)) 8)
    where
      go : Dec (t ≡ taken (live_after past)) → Dec (taken (live_after past) < 8) → (starts e && eqb t (taken (live_after past))) ≡ false
      go (yes q) (yes l) = never (rw q at a) (not-true _ (first-is 8 (unused (live_after past)) l))
      go (yes q) (no l) = never a (get_or-eq_default (live_after past) false {n = t} (omega (arith, q)))
      go (no q) l = rw (ne_eqb t (taken (live_after past)) q) (and-false (starts e))

-- ---- the first number
pub first-same : (n : ℕ) (p q : ℕ → Bool) → ((j : ℕ) → j < n → p j ≡ q j) → first_below n p ≡ first_below n q
unfolding first_below
first-same zero p q h = refl
first-same (suc n) p q h = rw (h 0 (omega arith), first-same n (λ j. p (suc j)) (λ j. q (suc j)) (λ j l. h (suc j) (omega arith)))
