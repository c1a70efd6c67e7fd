-- What can be told back is told apart; and what that is worth: one result.
use mathlib.Core.Path.{◌≡◌, refl, sym, ap, ◌∙◌}
use Rattle.std.specs.Prelude.{Some, None}
use native.Mathlib.Omega.{arith}
use Rattle.told_apart.specs.Apart.{ToldApart, ToldApartBy, SearchToldApart}

module _ {A B : Type 0} (f : A → B) where
  pub from-inverse : (back : B → A) → ((r : A) → back (f r) ≡ r) → ToldApart f
  from-inverse back inv r r' e = sym (inv r) ∙ ap back e ∙ inv r'

  pub from-inverse-by : (P : A → Type 0) (back : B → A) → ((r : A) → P r → back (f r) ≡ r) → ToldApartBy f P
  from-inverse-by P back inv r r' p p' e = sym (inv r p) ∙ ap back e ∙ inv r' p'

  -- THEOREM: two results that meet a contract through such a map are equal
  pub one-result-through : ToldApart f → (x : B) (r r' : A) → f r ≡ x → f r' ≡ x → r ≡ r'
  one-result-through apart x r r' p q = apart r r' (p ∙ sym q)

  -- THEOREM: so they are where the contract has the clause besides that the map needs
  pub one-result-through-by : (P : A → Type 0) → ToldApartBy f P → (x : B) (r r' : A) → (f r ≡ x) × P r → (f r' ≡ x) × P r' → r ≡ r'
  one-result-through-by P apart x r r' p q = apart r r' p.1 q.1 (p.0 ∙ sym q.0)

-- THEOREM: so are two answers of a search that stand for one number
pub search-apart : SearchToldApart
search-apart n k (Some i) (Some j) p q = ap Some (p.1 ∙ sym q.1)
search-apart n k (Some i) None p q = absurd (omega arith)
search-apart n k None (Some j) p q = absurd (omega arith)
search-apart n k None None p q = refl
