-- A promise weighed: a contract that gives the result by an equality leaves room for one result only.
use mathlib.Core.Path.{◌≡◌, sym, ◌∙◌}

-- THEOREM: two results that meet such a contract are equal
pub one-result {ℓ} : {A : Type ℓ} (x r r' : A) → r ≡ x → r' ≡ x → r ≡ r'
one-result x r r' p q = p ∙ sym q

-- THEOREM: so it is where the contract says more besides, of a bound that callers may lean on
pub one-result-bounded {ℓ} : {A : Type ℓ} (B : A → Type 0) (x r r' : A) → (r ≡ x) × B r → (r' ≡ x) × B r' → r ≡ r'
one-result-bounded B x r r' p q = one-result x r r' p.0 q.0
