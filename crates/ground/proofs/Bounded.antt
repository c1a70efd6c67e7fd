-- `all_below`, `first_below` and `count_below`: what they say, and the laws in the shape that a counting loop asks them in.
use mathlib.Core.Path.{◌≡◌, refl, sym, ap, ap₂, subst}
use mathlib.Core.Logic.{⊎_elim}
use mathlib.Core.Bool.{Bool, true, false, cond, ◌&&◌}
use Prim.Native.Nat.{ℕ, zero, suc, ◌+◌, ◌<◌, ◌≤◌}
use native.Mathlib.Nat.{le_of_suc-le-suc, not-suc-le-zero, eq-or-lt_of_le, le_antisymm}
use native.Mathlib.Numerals.{add-one}
use native.Mathlib.Omega.{arith}
use native.Mathlib.Decide.{ℕ_discrete, dec_lt}
use Rattle.std.specs.Prelude.{Option, Some, None}
use Rattle.std.specs.Option.{unwrap_or}
use Rattle.ground.specs.Bounded.{Told, all_below, first_below, count_below}
use Rattle.ground.proofs.Bools.{and-fst, and-snd, and-false, never}

module _ (p : ℕ → Bool) where
  pub all-zero : all_below 0 p ≡ true
  unfolding all_below
  all-zero = refl

  -- a turn of a loop that goes on
  pub all_more : (i : ℕ) → all_below i p ≡ true → p i ≡ true → all_below (i + 1) p ≡ true
  unfolding all_below
  all_more i a e = rw (add-one, a, e)

  pub all-stop : (n i : ℕ) → i < n → p i ≡ false → all_below n p ≡ false
  unfolding all_below
  all-stop zero i l e = absurd (not-suc-le-zero l)
  all-stop (suc n) i l e =
      ⊎_elim (λ q. rw (← q, e) (and-false (all_below i p))) (λ k. rw (all-stop n i k e)) (eq-or-lt_of_le (le_of_suc-le-suc l))

  -- a turn that returns early, and the loop's end
  pub all_left : (n i : ℕ) → i < n → p i ≡ false → false ≡ all_below n p
  all_left n i l e = sym (all-stop n i l e)

  -- .. where all before it held
  pub all_refused : (n i : ℕ) → i < n → all_below i p ≡ true → p i ≡ false → false ≡ all_below n p
  all_refused n i l a e = all_left n i l e

  pub all_done : (n i : ℕ) → i ≤ n → n ≤ i → all_below i p ≡ true → true ≡ all_below n p
  all_done n i l k a = sym (subst (λ (m : ℕ). all_below m p ≡ true) (le_antisymm l k) a)

  pub all-elim : (n : ℕ) → all_below n p ≡ true → (i : ℕ) → i < n → p i ≡ true
  unfolding all_below
  all-elim zero a i l = absurd (not-suc-le-zero l)
  all-elim (suc n) a i l =
      ⊎_elim (λ q. rw q (and-snd (all_below n p) (p n) a)) (λ k. all-elim n (and-fst (all_below n p) (p n) a) i k)
      (eq-or-lt_of_le (le_of_suc-le-suc l))

  pub all-intro : (n : ℕ) → ((i : ℕ) → i < n → p i ≡ true) → all_below n p ≡ true
  unfolding all_below
  all-intro zero h = refl
  all-intro (suc n) h = rw (all-intro n (λ i l. h i (omega arith)), h n (omega arith))

  -- a loop may stop at i where p holds of all that follow
  pub all_from : (n i : ℕ) → all_below i p ≡ true → ((j : ℕ) → i ≤ j → p j ≡ true) → all_below n p ≡ true
  all_from n i a h = all-intro n (λ j l. go j (dec_lt j i))
    where
      go : (j : ℕ) → Dec (j < i) → p j ≡ true
      go j (yes k) = all-elim i a j k
      go j (no k) = h j (omega arith)

  -- where it fails, some number below n fails
  pub all-some : (n : ℕ) → all_below n p ≡ false → (i : ℕ) × (i < n) × (p i ≡ false)
  unfolding all_below
  all-some zero e = never refl e
  all-some (suc n) e = go (all_below n p) refl (p n) refl (all-some n)
    where
      go : (a : Bool) → all_below n p ≡ a → (t : Bool) → p n ≡ t → (all_below n p ≡ false → (i : ℕ) × (i < n) × (p i ≡ false))
          → (i : ℕ) × (i < suc n) × (p i ≡ false)
      go false q t r ih = let s = ih q in (s.0, omega (arith, s.1), s.2)
      go true q false r ih = (n, omega arith, r)
      go true q true r ih = never (rw (q, r)) e

-- ---- first_below
pub first-at : (n : ℕ) (p : ℕ → Bool) (i : ℕ) → i < n → ((j : ℕ) → j < i → p j ≡ false) → p i ≡ true → first_below n p ≡ i
unfolding first_below
first-at zero p i l b e = absurd (not-suc-le-zero l)
first-at (suc n) p zero l b e = rw e
first-at (suc n) p (suc i) l b e =
    rw (b 0 (omega arith)) (ap suc (first-at n (λ j. p (suc j)) i (omega arith) (λ j k. b (suc j) (omega arith)) e))

pub first-none : (n : ℕ) (p : ℕ → Bool) → ((j : ℕ) → j < n → p j ≡ false) → first_below n p ≡ n
unfolding first_below
first-none zero p b = refl
first-none (suc n) p b = rw (b 0 (omega arith)) (ap suc (first-none n (λ j. p (suc j)) (λ j k. b (suc j) (omega arith))))

-- what the first number is
pub first-is : (n : ℕ) (p : ℕ → Bool) → first_below n p < n → p (first_below n p) ≡ true
unfolding first_below
first-is zero p l = absurd (not-suc-le-zero l)
first-is (suc n) p l = go (p 0) refl l (first-is n (λ i. p (suc i)))
  where
    go : (t : Bool) → p 0 ≡ t → cond t 0 (suc (first_below n (λ i. p (suc i)))) < suc n
        → (first_below n (λ i. p (suc i)) < n → p (suc (first_below n (λ i. p (suc i)))) ≡ true)
        → p (cond t 0 (suc (first_below n (λ i. p (suc i))))) ≡ true
    go true q k ih = q
    go false q k ih = ih (omega arith)

pub first-least : (n : ℕ) (p : ℕ → Bool) (j : ℕ) → j < first_below n p → p j ≡ false
unfolding first_below
first-least zero p j l = absurd (not-suc-le-zero l)
first-least (suc n) p j l = go (p 0) refl j l (first-least n (λ i. p (suc i)))
  where
    go : (t : Bool) → p 0 ≡ t → (j : ℕ) → j < cond t 0 (suc (first_below n (λ i. p (suc i))))
        → ((i : ℕ) → i < first_below n (λ i. p (suc i)) → p (suc i) ≡ false) → p j ≡ false
    go true q j k ih = absurd (not-suc-le-zero k)
    go false q zero k ih = q
    go false q (suc j) k ih = ih j (omega arith)

-- ---- count_below
-- tests that agree on the numbers below n
module _ (p q : ℕ → Bool) where
  pub all_same : (n : ℕ) → ((i : ℕ) → i < n → p i ≡ q i) → all_below n p ≡ all_below n q
  unfolding all_below
  all_same zero h = refl
  all_same (suc n) h = ap₂ (λ (x y : Bool). x && y) (all_same n (λ i l. h i (omega arith))) (h n (omega arith))

  pub count_same : (n : ℕ) → ((i : ℕ) → i < n → p i ≡ q i) → count_below n p ≡ count_below n q
  unfolding count_below
  count_same zero h = refl
  count_same (suc n) h = ap₂ (λ (x : ℕ) (t : Bool). x + cond t 1 0) (count_same n (λ i l. h i (omega arith))) (h n (omega arith))

module _ (p : ℕ → Bool) where
  pub count-zero : count_below 0 p ≡ 0
  unfolding count_below
  count-zero = refl

  pub count-more : (i : ℕ) → count_below (i + 1) p ≡ count_below i p + cond (p i) 1 0
  unfolding count_below
  count-more i = rw add-one

  pub count_under : (n : ℕ) → count_below n p ≤ n
  unfolding count_below
  count_under zero = omega arith
  count_under (suc n) = go (p n) (count_under n)
    where
      go : (t : Bool) → count_below n p ≤ n → count_below n p + cond t 1 0 ≤ suc n
      go true h = omega arith
      go false h = omega arith

  pub count_none : (n : ℕ) → ((i : ℕ) → i < n → p i ≡ false) → count_below n p ≡ 0
  unfolding count_below
  count_none zero h = refl
  count_none (suc n) h = rw (count_none n (λ i l. h i (omega arith)), h n (omega arith))

  pub count-some : (n i : ℕ) → i < n → p i ≡ true → 1 ≤ count_below n p
  unfolding count_below
  count-some zero i l e = absurd (not-suc-le-zero l)
  count-some (suc n) i l e = go (ℕ_discrete i n) (count-some n i)
    where
      go : Dec (i ≡ n) → (i < n → p i ≡ true → 1 ≤ count_below n p) → 1 ≤ count_below n p + cond (p n) 1 0
      go (yes q) ih = rw (rw q at e) (omega arith)
      go (no q) ih = omega (arith, ih (omega arith) e)

  -- p holds of two different numbers
  pub count-two : (n i j : ℕ) → i < j → j < n → p i ≡ true → p j ≡ true → 2 ≤ count_below n p
  unfolding count_below
  count-two zero i j l k d e = absurd (not-suc-le-zero k)
  count-two (suc n) i j l k d e = go (ℕ_discrete j n) (count-two n i j l)
    where
      go : Dec (j ≡ n) → (j < n → p i ≡ true → p j ≡ true → 2 ≤ count_below n p) → 2 ≤ count_below n p + cond (p n) 1 0
      go (yes q) ih = rw (rw q at e) (omega (arith, count-some n i (omega arith) d))
      go (no q) ih = omega (arith, ih (omega arith) d e)

  -- p holds of no two different numbers
  pub count-sole : (n : ℕ) → ((i j : ℕ) → i < j → j < n → p i ≡ true → p j ≡ true → ⊥) → count_below n p ≤ 1
  unfolding count_below
  count-sole zero h = omega arith
  count-sole (suc n) h = go (p n) refl (count-sole n (λ i j l k. h i j l (omega arith)))
    where
      off : p n ≡ true → (i : ℕ) → i < n → (t : Bool) → p i ≡ t → p i ≡ false
      off e i l true d = absurd (h i n l (omega arith) d e)
      off e i l false d = d

      go : (t : Bool) → p n ≡ t → count_below n p ≤ 1 → count_below n p + cond t 1 0 ≤ 1
      go true e ih = rw (count_none n (λ i l. off e i l (p i) refl)) (omega arith)
      go false e ih = omega arith

  -- more numbers, no fewer of them
  pub count-up : (i n : ℕ) → i ≤ n → count_below i p ≤ count_below n p
  unfolding count_below
  count-up i zero l = let q : i ≡ 0 = omega arith in rw q (omega arith)
  count-up i (suc n) l = go (ℕ_discrete i (suc n)) (count-up i n)
    where
      go : Dec (i ≡ suc n) → (i ≤ n → count_below i p ≤ count_below n p) → count_below i p ≤ count_below n p + cond (p n) 1 0
      go (yes q) ih = rw q (omega arith)
      go (no q) ih = omega (arith, ih (omega arith))

-- what a loop that asks p of each number in turn asks: `using(ground::proofs::Bounded::every)`
pub ruleset every = (all-zero, all_more, all_refused, all_done)

-- what a search tells, and n where it finds nothing, is its number
pub told_or : (n k : ℕ) (r : Option ℕ) → Told n k r → unwrap_or r n ≡ k
told_or n k (Some i) h = h.1
told_or n k None h = h
