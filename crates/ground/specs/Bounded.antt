-- Tests, searches, sums and writes over the numbers below a bound.
use Rattle.std.specs.Prelude.{List, Bool, true, cond, ◌&&◌, ℕ, zero, suc, ◌+◌, ◌<◌, ◌≡◌, set, Option, Some, None}

-- p holds of every number below n
unfoldable pub all_below : ℕ → (ℕ → Bool) → Bool
all_below zero p = true
all_below (suc n) p = all_below n p && p n

-- the first number below n of which p holds, and n where there is none
unfoldable pub first_below : ℕ → (ℕ → Bool) → ℕ
first_below zero p = 0
first_below (suc n) p = cond (p 0) 0 (suc (first_below n (λ i. p (suc i))))

-- the number k of a search below n, which is n where nothing is found, as the code tells it
abbrev pub Told : ℕ → ℕ → Option ℕ → Type 0
Told n k (Some i) = (i < n) × (i ≡ k)
Told n k None = n ≡ k

-- of how many numbers below n p holds
unfoldable pub count_below : ℕ → (ℕ → Bool) → ℕ
count_below zero p = 0
count_below (suc n) p = count_below n p + cond (p n) 1 0

-- f 0 + .. + f (n - 1)
unfoldable pub sum_below : ℕ → (ℕ → ℕ) → ℕ
sum_below zero f = 0
sum_below (suc n) f = sum_below n f + f n

-- l with f i at each place i below n
unfoldable pub set_below {ℓ} : {A : Type ℓ} → ℕ → (ℕ → A) → List A → List A
set_below zero f l = l
set_below (suc n) f l = set (set_below n f l) n (f n)

-- l with x at each of the n places from a on
unfoldable pub fill_from {ℓ} : {A : Type ℓ} → ℕ → ℕ → A → List A → List A
fill_from a zero x l = l
fill_from a (suc n) x l = set (fill_from a n x l) (a + n) x
