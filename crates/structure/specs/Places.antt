-- The places at which a bundle can break a condition of 1 to 7, in the document's order, each with its verdict.
use Rattle.std.specs.Prelude.{List, [], ◌∷◌, ◌++◌, Bool, ℕ, ◌+◌, ◌<◌}
use Rattle.ground.specs.Lists.{each, numbered}
use Rattle.bundle.specs.Container.{classes, class_at, record_fits, part_of}
use Rattle.bundle.specs.Program.{Address, program_of}
use Rattle.verdicts.specs.declared.Verdict.{Verdict}
use Rattle.verdicts.specs.Verdicts.{verdict}
use Rattle.structure.specs.Conditions.{length_ok, trailer_ok, directory_ok, limits_ok, descriptors_ok, address_ok}

pub data Place : Type 0 where
  whole trailer directory : Place
  limits extent descriptors : ℕ → Place
  instruction : ℕ → ℕ → Place

-- the places of a bundle: limits, extent and descriptors of each class, an instruction of each class and address
abbrev pub Within : List ℕ → Place → Type 0
Within b whole = Unit
Within b trailer = Unit
Within b directory = Unit
Within b (limits c) = c < classes b
Within b (extent c) = c < classes b
Within b (descriptors c) = c < classes b
Within b (instruction c l) = Address (program_of b) c l

-- 1 to 3 first
abbrev pub head_places : List Place
head_places = whole ∷ trailer ∷ directory ∷ []

-- then 4, 5, 6 class by class
abbrev pub shape_places : ℕ → List Place
shape_places c = limits c ∷ extent c ∷ descriptors c ∷ []

-- 1 to 6
abbrev pub layout_places : List ℕ → List Place
layout_places b = head_places ++ each (classes b) shape_places

-- then 7 over all classes and addresses, ascending
abbrev pub table_places : List ℕ → ℕ → List Place
table_places b c = numbered (class_at b c).code (λ i. instruction c (i + 1))

-- 1 to 7, in the document's order
abbrev pub structure_places : List ℕ → List Place
structure_places b = layout_places b ++ each (classes b) (table_places b)

-- the condition at a place holds
abbrev pub holds : List ℕ → Place → Bool
holds b whole = length_ok b
holds b trailer = trailer_ok b
holds b directory = directory_ok b
holds b (limits c) = limits_ok c (class_at b c)
holds b (extent c) = record_fits b (class_at b c)
holds b (descriptors c) = descriptors_ok (classes b) (class_at b c) (part_of b (class_at b c))
holds b (instruction c l) = address_ok b (class_at b c) (part_of b (class_at b c)) l

-- the verdict that a broken place draws
abbrev pub drawn : Place → Verdict
drawn whole = verdict 1 0 0
drawn trailer = verdict 2 0 0
drawn directory = verdict 3 0 0
drawn (limits c) = verdict 4 c 0
drawn (extent c) = verdict 5 c 0
drawn (descriptors c) = verdict 6 c 0
drawn (instruction c l) = verdict 7 c l
