-- Laws of `sum_below`.
use Prim.Native.Nat.{ℕ, zero, suc, ◌+◌, ◌*◌, ◌≤◌, ◌<◌}
use mathlib.Core.Path.{◌≡◌}
use mathlib.Core.Logic.{◌≢◌}
use native.Mathlib.Omega.{arith}
use native.Mathlib.Decide.{ℕ_discrete, dec_lt}
use Rattle.ground.specs.Bounded.{sum_below}

pub sum-le : (n : ℕ) (f g : ℕ → ℕ) → ((i : ℕ) → i < n → f i ≤ g i) → sum_below n f ≤ sum_below n g
unfolding sum_below
sum-le zero f g h = omega arith
sum-le (suc n) f g h = omega (arith, sum-le n f g (λ i l. h i (omega arith)), h n (omega arith))

-- every place but i compares, and place i does with what stands beside the sums
pub sum_one : (n : ℕ) (f g : ℕ → ℕ) (i p q : ℕ) → i < n → ((j : ℕ) → j < n → j ≢ i → f j ≤ g j) → f i + p ≤ g i + q
    → sum_below n f + p ≤ sum_below n g + q
unfolding sum_below
sum_one zero f g i p q l h e = omega arith
sum_one (suc n) f g i p q l h e = go (ℕ_discrete i n) (λ l'. sum_one n f g i p q l' (λ j k m. h j (omega arith) m) e)
  where
    go : Dec (i ≡ n) → (i < n → sum_below n f + p ≤ sum_below n g + q) → sum_below n f + f n + p ≤ sum_below n g + g n + q
    go (yes r) ih =
        let e' : f n + p ≤ g n + q = rw r at e in
        omega (arith, sum-le n f g (λ j k. h j (omega arith) (omega arith)))
    go (no r) ih = omega (arith, ih (omega arith), h n (omega arith) (omega arith))

-- every place but i < k compares, and these two do together with what stands beside the sums
pub sum-two : (n : ℕ) (f g : ℕ → ℕ) (i k p q : ℕ) → i < k → k < n → ((j : ℕ) → j < n → j ≢ i → j ≢ k → f j ≤ g j)
    → f i + f k + p ≤ g i + g k + q → sum_below n f + p ≤ sum_below n g + q
unfolding sum_below
sum-two zero f g i k p q l m h e = omega arith
sum-two (suc n) f g i k p q l m h e =
    go (ℕ_discrete k n) (λ m'. sum-two n f g i k p q l m' (λ j a b c. h j (omega arith) b c) e)
  where
    go : Dec (k ≡ n) → (k < n → sum_below n f + p ≤ sum_below n g + q) → sum_below n f + f n + p ≤ sum_below n g + g n + q
    go (yes r) ih =
        let e' : f i + f n + p ≤ g i + g n + q = rw r at e in
        omega (
          arith,
          sum_one n f g i (f n + p) (g n + q) (omega arith) (λ j a b. h j (omega arith) b (omega arith)) (omega arith),
        )
    go (no r) ih = omega (arith, ih (omega arith), h n (omega arith) (omega arith) (omega arith))

pub sum-ge : (n : ℕ) (f : ℕ → ℕ) (c : ℕ) → ((i : ℕ) → i < n → c ≤ f i) → c * n ≤ sum_below n f
unfolding sum_below
sum-ge zero f c h = omega arith
sum-ge (suc n) f c h = omega (arith, sum-ge n f c (λ i l. h i (omega arith)), h n (omega arith))

pub sum-term : (n : ℕ) (f : ℕ → ℕ) (i : ℕ) → i < n → f i ≤ sum_below n f
unfolding sum_below
sum-term zero f i h = omega arith
sum-term (suc n) f i h = go (ℕ_discrete i n) (sum-term n f i)
  where
    go : Dec (i ≡ n) → (i < n → f i ≤ sum_below n f) → f i ≤ sum_below n f + f n
    go (yes q) r = rw q (omega arith)
    go (no q) r = omega (arith, r (omega arith))

-- a sum below c for each place has a term below c
pub sum-some : (n : ℕ) (f : ℕ → ℕ) (c : ℕ) → sum_below n f < c * n → (i : ℕ) × (i < n) × (f i < c)
unfolding sum_below
sum-some zero f c h = absurd (omega arith)
sum-some (suc n) f c h = go (dec_lt (f n) c) (sum-some n f c)
  where
    go : Dec (f n < c) → (sum_below n f < c * n → (i : ℕ) × (i < n) × (f i < c)) → (i : ℕ) × (i < suc n) × (f i < c)
    go (yes k) r = (n, omega arith, k)
    go (no k) r = let x = r (omega arith) in (x.0, omega (arith, x.1), x.2)
