-- The places at which a bundle can break a rule, in the document's order: those of `structure`, and of 8, 10 and 9; each with its verdict.
use Rattle.std.specs.Prelude.{List, ◌∷◌, ◌++◌, map, Bool, ℕ, ◌+◌, ◌<◌}
use Rattle.ground.specs.Lists.{each, numbered}
use Rattle.bundle.specs.Container.{classes, class_at}
use Rattle.bundle.specs.Program.{Address, program_of}
use Rattle.verdicts.specs.declared.Verdict.{Verdict}
use Rattle.verdicts.specs.Verdicts.{verdict, rule_fails}
use Rattle.structure.specs.Places as structure
use Rattle.rows.specs.Typed.{typed_of}
use Rattle.forms.specs.Forms.{formed_at, first_at}
use Rattle.rules.specs.Rule as rules
use Rattle.rules.specs.Rule.{why}
use Rattle.rules.specs.Rules.{rule_at}

pub data Place : Type 0 where
  structural : structure.Place → Place
  form : ℕ → ℕ → Place
  first : ℕ → Place
  rule : ℕ → ℕ → Place

abbrev pub Within : List ℕ → Place → Type 0
Within b (structural p) = structure.Within b p
Within b (form c l) = Address (program_of b) c l
Within b (first c) = c < classes b
Within b (rule c l) = Address (program_of b) c l

-- after 1 to 7, 8 over all classes and addresses, likewise
abbrev pub form_places : List ℕ → ℕ → List Place
form_places b c = numbered (class_at b c).code (λ i. form c (i + 1))

-- last, class by class, 10 and then 9 ascending
abbrev pub rule_places : List ℕ → ℕ → List Place
rule_places b c = first c ∷ numbered (class_at b c).code (λ i. rule c (i + 1))

-- all places, in the document's order
abbrev pub places : List ℕ → List Place
places b = map structural (structure.structure_places b) ++ (each (classes b) (form_places b) ++ each (classes b) (rule_places b))

-- the rule at a place holds
abbrev pub holds : List ℕ → Place → Bool
holds b (structural p) = structure.holds b p
holds b (form c l) = formed_at (typed_of b) c l
holds b (first c) = first_at (typed_of b) c
holds b (rule c l) = rules.rule_holds ((program_of b).method c).vars (rule_at (typed_of b) c l)

-- the verdict that a broken place draws; a 9 says why
abbrev pub drawn : List ℕ → Place → Verdict
drawn b (structural p) = structure.drawn p
drawn b (form c l) = verdict 8 c l
drawn b (first c) = verdict 10 c 0
drawn b (rule c l) = rule_fails c l (why ((program_of b).method c).vars (rule_at (typed_of b) c l))
