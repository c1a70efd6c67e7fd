-- Document 01, verdicts in their order, 1 to 7: the verdict is the first broken place's. What that says without a search is stated here, and proved in proofs/FirstBroken.antt.
use Rattle.std.specs.Prelude.{List, [], ◌&&◌, ℕ, ltb, eqb}
use Rattle.ground.specs.Chain.{refuse}
use Rattle.ground.specs.Lists.{first_broken}
use Rattle.bundle.specs.Container.{classes, class_at, part_of, part_place}
use Rattle.verdicts.specs.declared.Verdict.{Verdict}
use Rattle.verdicts.specs.Verdicts.{verdict, pass, Judges}
use Rattle.structure.specs.Places.{Place, Within, head_places, layout_places, structure_places, holds, drawn}

-- the verdict of the first broken of some places, and `pass` where all hold
abbrev pub searched : List ℕ → List Place → Verdict
searched b places = first_broken (holds b) drawn pass places

-- 1 to 3
abbrev pub head_of : List ℕ → Verdict
head_of b = searched b head_places

-- 1 to 6: where these pass, every record can be read
unfoldable pub layout_of : List ℕ → Verdict
layout_of b = searched b (layout_places b)

-- the first broken condition of 1 to 7; where there is none, 0 with the class count
unfoldable pub structure_of : List ℕ → Verdict
structure_of b = first_broken (holds b) drawn (verdict 0 (classes b) 0) (structure_places b)

-- the first broken place in the list, which has all places: `structure-judges`
abbrev pub StructureJudges : Type 0
StructureJudges = (b : List ℕ) → Judges (holds b) drawn (structure_places b) (Within b) (classes b) (structure_of b)

-- the search for a class's record gives back that part of the bundle; an empty part on verdict 1 to 6 or where there is no such class
unfoldable pub record_of : List ℕ → ℕ → List ℕ
record_of b c = refuse (eqb (layout_of b).number 0 && ltb c (classes b)) [] (part_of b (class_at b c))

-- .. and where in the bundle that part begins
unfoldable pub record_place : List ℕ → ℕ → ℕ
record_place b c = refuse (eqb (layout_of b).number 0 && ltb c (classes b)) 0 (part_place b (class_at b c))
