-- Document 02, Q-5, refusals 1 to 8 as before, pair bytes aside.
use Rattle.std.specs.Prelude.{List, ◌++◌, map, ◌≡◌, Bool, true, cond, ℕ, ◌+◌, ◌*◌, ltb, eqb, length}
use Rattle.ground.specs.Bytes.{at}
use Rattle.ground.specs.Chain.{refuse}
use Rattle.ground.specs.Lists.{each, first_broken}
use Rattle.bundle.specs.declared.Class.{Class}
use Rattle.bundle.specs.Container.{classes, class_at, part_of}
use Rattle.bundle.specs.Program.{Address, program_of}
use Rattle.verdicts.specs.declared.Verdict.{Verdict}
use Rattle.verdicts.specs.Verdicts.{verdict, is_bad, Judges}
use Rattle.structure.specs.Structure.{structure_of}
use Rattle.structure.specs.Places as structure
use Rattle.entries.specs.Entries.{Entry, Blank, min_end, entry_of}
use Rattle.rows.specs.Rows.{Row, row_start, depth_at}
use Rattle.rows.specs.Typed.{Typed}
use Rattle.forms.specs.Forms.{formed_at}
use Rattle.verifier.specs.Places.{Place, structural, form, first, rule, form_places, drawn}

-- an entry's four bytes with its pair bytes aside: of kind 3, whatever they are, the pair counts as (0, -63)
unfoldable pub aside : ℕ → ℕ → ℕ → ℕ → ℕ → Entry
aside n kind c d e = cond (eqb kind 3) (entry_of n 3 c 0 min_end) (entry_of n kind c d e)

-- the entry at place p of a record, pair bytes aside. Below the depth in use no entry is of kind 3, whatever its pair: it must be 0,0,0,0
unfoldable pub entry_aside : ℕ → List ℕ → ℕ → Entry
entry_aside n r p = refuse (ltb (p + 3) (length r)) Blank (aside n (at r p) (at r (p + 1)) (at r (p + 2)) (at r (p + 3)))

-- the row that begins at s, pair bytes aside
unfoldable pub variable_aside : ℕ → List ℕ → ℕ → ℕ → Entry
variable_aside n r s i = entry_aside n r (s + 4 * i)

unfoldable pub stack_aside : ℕ → Class → List ℕ → ℕ → ℕ → Entry
stack_aside n k r s j = refuse (ltb j k.limit) Blank (entry_aside n r (s + 4 * k.vars + 1 + 4 * j))

abbrev pub row_aside : ℕ → Class → List ℕ → ℕ → Row
row_aside n k r s = record { variable = variable_aside n r s; depth = depth_at r s k.vars; stack = stack_aside n k r s }

-- the typed program that a bundle is, pair bytes aside
abbrev pub typed_aside : List ℕ → Typed
typed_aside b = record { program = program_of b; row = λ c l. let k = class_at b c in row_aside (classes b) k (part_of b k) (row_start k l) }

-- the places of 1 to 7 and of 8, in the document's order
abbrev pub shape_places : List ℕ → List Place
shape_places b = map structural (structure.structure_places b) ++ each (classes b) (form_places b)

-- the rule at a place holds, pair bytes aside; 10 and 9 are none of these places
abbrev pub shape_holds : List ℕ → Place → Bool
shape_holds b (structural p) = structure.holds b p
shape_holds b (form c l) = formed_at (typed_aside b) c l
shape_holds b (first c) = true
shape_holds b (rule c l) = true

-- 1 to 8 as before, pair bytes aside: the verdict of the first broken place, and 0 with the class count where all hold
unfoldable pub shape_verdict : List ℕ → Verdict
shape_verdict b = first_broken (shape_holds b) (drawn b) (verdict 0 (classes b) 0) (shape_places b)

-- what that says without a search: `shape-judges`
abbrev pub ShapeWithin : List ℕ → Place → Type 0
ShapeWithin b (structural p) = structure.Within b p
ShapeWithin b (form c l) = Address (program_of b) c l
ShapeWithin b (first c) = ⊥
ShapeWithin b (rule c l) = ⊥

abbrev pub ShapeJudges : Type 0
ShapeJudges = (b : List ℕ) → Judges (shape_holds b) (drawn b) (shape_places b) (ShapeWithin b) (classes b) (shape_verdict b)

-- 1 to 7 are the verifier's: `shape-agrees`
abbrev pub ShapeAgrees : Type 0
ShapeAgrees = (b : List ℕ) → is_bad (structure_of b) ≡ true → shape_verdict b ≡ structure_of b
