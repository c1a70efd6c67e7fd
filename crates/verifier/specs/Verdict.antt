-- Document 01, verdicts in their order: the verdict is the first broken place's. What that says without a search is stated here, and proved in proofs/FirstBroken.antt.
use Rattle.std.specs.Prelude.{List, true, ◌≡◌, ℕ}
use Rattle.ground.specs.Lists.{first_broken}
use Rattle.bundle.specs.Container.{classes}
use Rattle.verdicts.specs.declared.Verdict.{Verdict}
use Rattle.verdicts.specs.Verdicts.{verdict, is_bad, Judges}
use Rattle.structure.specs.Structure.{structure_of}
use Rattle.verifier.specs.Places.{Within, places, holds, drawn}

-- the verdict: the first broken rule in the document's order, and 0 with the class count where all hold
unfoldable pub verdict_of : List ℕ → Verdict
verdict_of b = first_broken (holds b) (drawn b) (verdict 0 (classes b) 0) (places b)

-- the first broken place in the list, which has all places: `verdict-judges`
abbrev pub VerdictJudges : Type 0
VerdictJudges = (b : List ℕ) → Judges (holds b) (drawn b) (places b) (Within b) (classes b) (verdict_of b)

-- `verify` and `structure` agree on 1 to 7: `agrees`, `agrees_back`
abbrev pub Agrees : Type 0
Agrees = (b : List ℕ) → is_bad (structure_of b) ≡ true → verdict_of b ≡ structure_of b

abbrev pub AgreesBack : Type 0
AgreesBack = (b : List ℕ) → (verdict_of b).number ≡ 0 → (structure_of b).number ≡ 0
