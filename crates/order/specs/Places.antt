-- The places at which a bundle and a list of levels can break a rule of the profile, in their order: the list itself, and those of `verify` with 25 after 9 at the same address; each with its verdict.
use Rattle.std.specs.Prelude.{List, [], ◌∷◌, ◌++◌, Bool, ℕ}
use Rattle.bundle.specs.Program.{Address, program_of}
use Rattle.verdicts.specs.declared.Verdict.{Verdict}
use Rattle.verdicts.specs.Verdicts.{verdict}
use Rattle.rows.specs.Typed.{typed_of}
use Rattle.verifier.specs.Places as verifier
use Rattle.verifier.specs.Places.{structural, form, first, rule}
use Rattle.order.specs.Order.{eight_levels, order_at}

pub data Place : Type 0 where
  list : Place
  base : verifier.Place → Place
  order : ℕ → ℕ → Place

abbrev pub Within : List ℕ → Place → Type 0
Within b list = Unit
Within b (base p) = verifier.Within b p
Within b (order c l) = Address (program_of b) c l

-- 25 after 9 at the same address
abbrev pub with_order : verifier.Place → List Place
with_order (structural p) = base (structural p) ∷ []
with_order (form c l) = base (form c l) ∷ []
with_order (first c) = base (first c) ∷ []
with_order (rule c l) = base (rule c l) ∷ order c l ∷ []

-- the places of `verify` in their order, so extended
unfoldable pub extended : List verifier.Place → List Place
extended [] = []
extended (p ∷ l) = with_order p ++ extended l

-- 26 before all else
abbrev pub places : List ℕ → List Place
places b = list ∷ extended (verifier.places b)

-- the rule at a place holds
abbrev pub holds : List ℕ → List ℕ → Place → Bool
holds b levels list = eight_levels levels
holds b levels (base p) = verifier.holds b p
holds b levels (order c l) = order_at levels (typed_of b) c l

-- the verdict that a broken place draws: 25 names class and address
abbrev pub drawn : List ℕ → Place → Verdict
drawn b list = verdict 26 0 0
drawn b (base p) = verifier.drawn b p
drawn b (order c l) = verdict 25 c l
