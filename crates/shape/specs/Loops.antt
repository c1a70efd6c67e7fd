-- Refusal 8, pair bytes aside, as the code goes along it: an entry's bytes as one number, and the addresses of a class, of the numbers k and the record r that a loop is handed. Only contracts and proofs cite it.
use Rattle.std.specs.Prelude.{List, cond, ℕ, ◌+◌, ◌*◌, ◌/◌, eqb}
use Rattle.ground.specs.Chain.{refuse}
use Rattle.ground.specs.Lists.{first_broken}
use Rattle.bundle.specs.declared.Class.{Class}
use Rattle.verdicts.specs.declared.Verdict.{Verdict}
use Rattle.verdicts.specs.Verdicts.{verdict, pass}
use Rattle.structure.specs.Loops.{ascending}
use Rattle.rows.specs.Rows.{row_start}
use Rattle.forms.specs.Forms.{row_formed}
use Rattle.verifier.specs.Places.{Place, drawn}
use Rattle.shape.specs.Shape.{row_aside, shape_holds}

-- the number with its pair bytes aside
unfoldable pub aside_word : ℕ → ℕ
aside_word w = cond (eqb (w / 16777216) 3) (w / 65536 * 65536 + 1) w

-- the verdict of the first broken of some places, and `pass` where all hold
abbrev pub searched : List ℕ → List Place → Verdict
searched b places = first_broken (shape_holds b) (drawn b) pass places

-- 8 at the address i + 1
unfoldable pub shaped_at : ℕ → ℕ → Class → List ℕ → ℕ → Verdict
shaped_at n c k r i = refuse (row_formed k.vars k.limit (row_aside n k r (row_start k (i + 1)))) (verdict 8 c (i + 1)) pass

abbrev pub shaped_of : ℕ → ℕ → Class → List ℕ → Verdict
shaped_of n c k r = ascending k.code (shaped_at n c k r)
