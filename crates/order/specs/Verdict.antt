-- Document 02, Q-10: the verdict of the profile is the first broken place's. What that says without a search is stated here, and proved in proofs/FirstBroken.antt, Accepts.antt and Agrees.antt.
use Rattle.std.specs.Prelude.{List, ◌∷◌, ◌++◌, ◌≡◌, ◌≢◌, true, ℕ, length}
use Rattle.ground.specs.Lists.{All, first_broken}
use Rattle.bundle.specs.Container.{classes}
use Rattle.rows.specs.Typed.{typed_of}
use Rattle.verdicts.specs.declared.Verdict.{Verdict}
use Rattle.verdicts.specs.Verdicts.{verdict, Judges}
use Rattle.verifier.specs.Places as verifier
use Rattle.verifier.specs.Places.{rule}
use Rattle.verifier.specs.Verdict.{verdict_of}
use Rattle.order.specs.Order.{OrderHolds}
use Rattle.order.specs.Places.{Within, places, holds, drawn}

-- the verdict under the profile: the first broken rule in its order, and 0 as `verify` has it where all hold
unfoldable pub ordered_verdict_of : List ℕ → List ℕ → Verdict
ordered_verdict_of b levels = first_broken (holds b levels) (drawn b) (verdict 0 (classes b) 0) (places b)

-- the first broken place in the list, which has all places: `ordered-judges`
abbrev pub OrderedJudges : Type 0
OrderedJudges = (b levels : List ℕ) → Judges (holds b levels) (drawn b) (places b) (Within b) (classes b) (ordered_verdict_of b levels)

-- `verify` gives 0, the list has eight bytes, and the order holds at every monitorenter of every class
pub record Fit (b levels : List ℕ) : Type 0 where
  pub verified : (verdict_of b).number ≡ 0
  pub eight : length levels ≡ 8
  pub ordered : OrderHolds levels (typed_of b)

-- 0 exactly then: `accepts-exactly`
abbrev pub AcceptsExactly : Type 0
AcceptsExactly = (b levels : List ℕ) → ((ordered_verdict_of b levels).number ≡ 0 → Fit b levels) × (Fit b levels → (ordered_verdict_of b levels).number ≡ 0)

-- of places of `verify`, all hold before address l of class c, and there as well
pub record Upto (b : List ℕ) (places : List verifier.Place) (c l : ℕ) : Type 0 where
  pub front : List verifier.Place
  pub back : List verifier.Place
  pub whole : places ≡ front ++ (rule c l ∷ back)
  pub before : All (verifier.holds b) front
  pub there : verifier.holds b (rule c l) ≡ true

-- the other verdicts agree with those of `verify` up to the first 25: `agrees`
pub record Agrees (b levels : List ℕ) : Type 0 where
  -- 26 when the list isn't eight bytes long, before all else
  pub not_eight : length levels ≢ 8 → ordered_verdict_of b levels ≡ verdict 26 0 0
  -- otherwise a verdict that isn't 25 is that of `verify`
  pub other : length levels ≡ 8 → (ordered_verdict_of b levels).number ≢ 25 → ordered_verdict_of b levels ≡ verdict_of b
  -- and a 25 comes where `verify` has found nothing broken; that the order is broken there and held before, `OrderedJudges` says
  pub first_25 : (ordered_verdict_of b levels).number ≡ 25 → Upto b (verifier.places b) (ordered_verdict_of b levels).class (ordered_verdict_of b levels).address

abbrev pub AgreesUpto25 : Type 0
AgreesUpto25 = (b levels : List ℕ) → Agrees b levels
