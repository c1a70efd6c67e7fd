-- Laws of `tab`: a list that is given by its elements.
use mathlib.Core.List.{List}
use mathlib.Core.Path.{◌≡◌, refl, sym, ap, ◌∙◌}
use mathlib.Core.Logic.{◌≢◌}
use Prim.Native.Nat.{ℕ, zero, suc, ◌<◌}
use lib.ListN.{length, get_or, set, length-set}
use lib.Seq.{get_or-set_same, get_or-set_other, ext_get_or}
use native.Mathlib.Omega.{arith}
use native.Mathlib.Decide.{ℕ_discrete}
use Rattle.ground.specs.Bounded.{set_below}
use Rattle.ground.proofs.Writes.{set-length, set_below_lem}
use Rattle.memory.specs.Tab.{tab}

module _ {A : Type 0} where
  pub tab-length : (n : ℕ) (f : ℕ → A) → length (tab n f) ≡ n
  unfolding tab
  tab-length zero f = refl
  tab-length (suc n) f = ap suc (tab-length n (λ i. f (suc i)))

  pub tab-at : (n : ℕ) (f : ℕ → A) (i : ℕ) (d : A) → i < n → get_or (tab n f) i d ≡ f i
  unfolding tab
  tab-at zero f i d l = absurd (omega arith)
  tab-at (suc n) f zero d l = refl
  tab-at (suc n) f (suc i) d l = tab-at n (λ j. f (suc j)) i d (omega arith)

  -- two tables are equal by their elements
  pub tab-same : (n : ℕ) (f g : ℕ → A) → ((i : ℕ) → i < n → g i ≡ f i) → tab n g ≡ tab n f
  unfolding tab
  tab-same zero f g h = refl
  tab-same (suc n) f g h = rw (h 0 (omega arith), tab-same n (λ i. f (suc i)) (λ i. g (suc i)) (λ i l. h (suc i) (omega arith)))

  -- a list is the table of its elements
  pub is-tab : (n : ℕ) (f : ℕ → A) (d : A) (l : List A) → length l ≡ n → ((i : ℕ) → i < n → get_or l i d ≡ f i) → l ≡ tab n f
  is-tab n f d l e h = ext_get_or d l (tab n f) (e ∙ sym (tab-length n f)) (λ i k. h i (omega arith) ∙ sym (tab-at n f i d (omega arith)))

  -- one element changes
  pub tab-set : (n : ℕ) (f g : ℕ → A) (i : ℕ) (x : A) → i < n → g i ≡ x → ((j : ℕ) → j < n → j ≢ i → g j ≡ f j) → tab n g ≡ set (tab n f) i x
  tab-set n f g i x l e h =
      sym (is-tab n g x (set (tab n f) i x) (length-set (tab n f) i x ∙ tab-length n f) (λ j k. go j k (ℕ_discrete j i)))
    where
      go : (j : ℕ) → j < n → Dec (j ≡ i) → get_or (set (tab n f) i x) j x ≡ g j
      go j k (yes q) = rw q (get_or-set_same (tab n f) i x x (rw (tab-length n f) l) ∙ sym e)
      go j k (no q) = get_or-set_other (tab n f) i j x x q ∙ tab-at n f j x k ∙ sym (h j k q)

  -- a loop that writes every place
  pub all_set : (n : ℕ) (f : ℕ → A) (l : List A) → length l ≡ n → set_below n f l ≡ tab n f
  all_set n f l e = is-tab n f (f 0) (set_below n f l) (set-length f l n ∙ e) (λ i k. set_below_lem f l n i (f 0) k (omega arith))
