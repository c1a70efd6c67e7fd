-- What it is that a map tells results apart: a contract that holds what the map gives to a definition then leaves room for one result.
use Rattle.std.specs.Prelude.{◌≡◌, ℕ, ◌≤◌, Option, Result, IfErr}
use Rattle.ground.specs.Bounded.{Told}
use Rattle.turns.specs.declared.Answer.{Answer}
use Rattle.turns.specs.Numbers.{answer_number}

module _ {A B : Type 0} (f : A → B) where
  abbrev pub ToldApart : Type 0
  ToldApart = (r r' : A) → f r ≡ f r' → r ≡ r'

  -- .. of those results that the contract's second clause allows
  abbrev pub ToldApartBy : (A → Type 0) → Type 0
  ToldApartBy P = (r r' : A) → P r → P r' → f r ≡ f r' → r ≡ r'

-- a search's number leaves room for one answer
abbrev pub SearchToldApart : Type 0
SearchToldApart = (n k : ℕ) (r r' : Option ℕ) → Told n k r → Told n k r' → r ≡ r'

-- the second clause of `held`: a refusal's answer is 5 or more
abbrev pub refuses_late : Result ℕ Answer → Type 0
refuses_late r = IfErr r (λ a. 5 ≤ answer_number a)
