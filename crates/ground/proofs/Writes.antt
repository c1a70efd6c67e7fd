-- Laws of `set_below` and `fill_from`, the writing loops.
use mathlib.Core.List.{List, [], ◌∷◌}
use mathlib.Core.Path.{◌≡◌, refl, ◌∙◌}
use mathlib.Core.Logic.{⊎_elim}
use Prim.Native.Nat.{ℕ, zero, suc, ◌+◌, ◌<◌, ◌≤◌}
use lib.ListN.{length, get_or, set, length-set}
use lib.Seq.{get_or-set_same, get_or-set_other, set_out}
use native.Mathlib.Nat.{eq-or-lt_of_le}
use native.Mathlib.Numerals.{add-one}
use native.Mathlib.Omega.{arith}
use native.Mathlib.Decide.{ℕ_discrete}
use Rattle.ground.specs.Bounded.{set_below, fill_from}

module _ {A : Type 0} (f : ℕ → A) (l : List A) where
  pub set-zero : set_below 0 f l ≡ l
  unfolding set_below
  set-zero = refl

  -- a turn of the loop
  pub set_more : (i : ℕ) → set_below (i + 1) f l ≡ set (set_below i f l) i (f i)
  unfolding set_below
  set_more i = rw add-one

  pub set-length : (n : ℕ) → length (set_below n f l) ≡ length l
  unfolding set_below
  set-length zero = refl
  set-length (suc n) = length-set (set_below n f l) n (f n) ∙ set-length n

  pub set_below_lem : (n i : ℕ) (d : A) → i < n → n ≤ length l → get_or (set_below n f l) i d ≡ f i
  unfolding set_below
  set_below_lem zero i d h k = absurd (omega arith)
  set_below_lem (suc n) i d h k = go (ℕ_discrete i n) (set_below_lem n i d)
    where
      go : Dec (i ≡ n) → (i < n → n ≤ length l → get_or (set_below n f l) i d ≡ f i)
          → get_or (set (set_below n f l) n (f n)) i d ≡ f i
      go (yes q) ih = rw q (get_or-set_same (set_below n f l) n (f n) d (rw (set-length n) k))
      go (no q) ih = get_or-set_other (set_below n f l) n i (f n) d q ∙ ih (omega arith) (omega arith)

  pub set-above : (n i : ℕ) (d : A) → n ≤ i → get_or (set_below n f l) i d ≡ get_or l i d
  unfolding set_below
  set-above zero i d h = refl
  set-above (suc n) i d h = get_or-set_other (set_below n f l) n i (f n) d (omega arith) ∙ set-above n i d (omega arith)

module _ {A : Type 0} (a : ℕ) (x : A) (l : List A) where
  pub fill-zero : fill_from a 0 x l ≡ l
  unfolding fill_from
  fill-zero = refl

  pub fill_more : (n : ℕ) → fill_from a (n + 1) x l ≡ set (fill_from a n x l) (a + n) x
  unfolding fill_from
  fill_more n = rw add-one

  pub fill-length : (n : ℕ) → length (fill_from a n x l) ≡ length l
  unfolding fill_from
  fill-length zero = refl
  fill-length (suc n) = length-set (fill_from a n x l) (a + n) x ∙ fill-length n

  pub fill-in : (n i : ℕ) (d : A) → a ≤ i → i < a + n → a + n ≤ length l → get_or (fill_from a n x l) i d ≡ x
  unfolding fill_from
  fill-in zero i d h k m = absurd (omega arith)
  fill-in (suc n) i d h k m = go (ℕ_discrete i (a + n)) (fill-in n i d h)
    where
      go : Dec (i ≡ a + n) → (i < a + n → a + n ≤ length l → get_or (fill_from a n x l) i d ≡ x)
          → get_or (set (fill_from a n x l) (a + n) x) i d ≡ x
      go (yes q) ih = rw q (get_or-set_same (fill_from a n x l) (a + n) x d (rw (fill-length n) (omega arith)))
      go (no q) ih = get_or-set_other (fill_from a n x l) (a + n) i x d q ∙ ih (omega arith) (omega arith)

  pub fill-out : (n i : ℕ) (d : A) → (a ≤ i → a + n ≤ i) → get_or (fill_from a n x l) i d ≡ get_or l i d
  unfolding fill_from
  fill-out zero i d h = refl
  fill-out (suc n) i d h = get_or-set_other (fill_from a n x l) (a + n) i x d (λ q. omega (arith, h (omega arith))) ∙ fill-out n i d (λ k. omega (arith, h k))

-- writes past the end change nothing: a loop may stop there
pub set_past : {A : Type 0} (f : ℕ → A) (l : List A) (i n : ℕ) → i ≤ n → length l ≤ i → set_below i f l ≡ set_below n f l
unfolding set_below
set_past f l i zero h k = let e : i ≡ 0 = omega arith in rw e
set_past f l i (suc n) h k =
    ⊎_elim (λ q. rw q)
    (λ (m : i < suc n). rw (set_out (set_below n f l) n (f n) (rw (set-length f l n) (omega arith))) (set_past f l i n (omega arith) k))
    (eq-or-lt_of_le h)

pub fill-past : {A : Type 0} (a : ℕ) (x : A) (l : List A) (i n : ℕ) → i ≤ n → length l ≤ a + i → fill_from a i x l ≡ fill_from a n x l
unfolding fill_from
fill-past a x l i zero h k = let e : i ≡ 0 = omega arith in rw e
fill-past a x l i (suc n) h k =
    ⊎_elim (λ q. rw q)
    (λ (m : i < suc n). rw (set_out (fill_from a n x l) (a + n) x (rw (fill-length a x l n) (omega arith))) (fill-past a x l i n (omega arith) k))
    (eq-or-lt_of_le h)

-- within the list the default is not read
pub read-any : {A : Type 0} (l : List A) (i : ℕ) (d e : A) → i < length l → get_or l i d ≡ get_or l i e
read-any [] i d e h = absurd (omega arith)
read-any (x ∷ l) zero d e h = refl
read-any (x ∷ l) (suc i) d e h = read-any l i d e (omega arith)
