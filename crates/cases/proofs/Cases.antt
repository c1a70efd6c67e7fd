-- The cases marked P, by computation: one list, one statement.
use mathlib.Core.List.{[], ◌∷◌, map}
use lib.ListN.{length}
use mathlib.Core.Path.{◌≡◌, refl}
use Rattle.cases.specs.Cases.{Case, cases, case_a, case_b, case_c}
use Rattle.cases.proofs.Judgement.{judgement}

pub cases-hold : map (λ (c : Case). c.given) cases ≡ map (λ (c : Case). c.wanted) cases
unfolding judgement
cases-hold = refl

-- record 117 bytes, directory at 117, whole bundle 133
pub sizes : map length (case_a ∷ case_b ∷ case_c ∷ []) ≡ 133 ∷ 133 ∷ 133 ∷ []
sizes = refl
