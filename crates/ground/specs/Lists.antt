-- Lists as the documents count things off; and the first of a list that is broken, by a test.
use Rattle.std.specs.Prelude.{List, [], ◌∷◌, ◌++◌, ◌≡◌, ◌⊎◌, Bool, true, false, ℕ, zero, suc}
use Rattle.ground.specs.Chain.{refuse}

module _ {A : Type 0} where
  -- f 0 ++ f 1 ++ .. ++ f (n - 1)
  unfoldable pub each : ℕ → (ℕ → List A) → List A
  each zero f = []
  each (suc n) f = each n f ++ f n

  -- f 0, f 1, .., f (n - 1)
  abbrev pub numbered : ℕ → (ℕ → A) → List A
  numbered n f = each n (λ i. f i ∷ [])

  -- x stands in l
  unfoldable pub In : A → List A → Type 0
  In x [] = ⊥
  In x (y ∷ l) = (x ≡ y) ⊎ In x l

module _ {A : Type 0} (holds : A → Bool) where
  -- all of l hold
  unfoldable pub All : List A → Type 0
  All [] = Unit
  All (x ∷ l) = (holds x ≡ true) × All l

  -- x is the first of l that is broken
  pub record First (l : List A) (x : A) : Type 0 where
    pub front : List A
    pub back : List A
    pub whole : l ≡ front ++ (x ∷ back)
    pub before : All front
    pub broken : holds x ≡ false

  -- the answer of the first of a list that is broken, and `none` where all hold
  unfoldable pub first_broken : {B : Type 0} → (A → B) → B → List A → B
  first_broken answer none [] = none
  first_broken answer none (x ∷ l) = refuse (holds x) (answer x) (first_broken answer none l)
