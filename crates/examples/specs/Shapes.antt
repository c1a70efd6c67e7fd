-- Document 02, Q-5: bundles whose pairs are to be worked out: 1 to 8, pair bytes aside, and whether records and directory are apart (else 23).
use Rattle.std.specs.Prelude.{List, [], ◌∷◌, map, ◌≡◌, Bool, true, false, ℕ, set}
use Rattle.verdicts.specs.declared.Verdict.{Verdict}
use Rattle.verdicts.specs.Verdicts.{verdict}
use Rattle.shape.specs.Shape.{shape_verdict}
use Rattle.shape.specs.Apart.{all_apart}
use Rattle.examples.specs.Bundles.{store, new, returns, top, none, reference, nullable, line, source, bundle_of}

-- a new object is stored; x is what row 3 claims of it, and row 3's stack, which is not in use, stands at 35
abbrev stored_as : List ℕ → List ℕ
stored_as x =
    bundle_of 0
    (source 1 1 [] []
    (line (new 0 0) (top ∷ []) []
    ∷ line (store 0) (top ∷ []) (reference 0 0 0 ∷ [])
    ∷ line returns (x ∷ []) []
    ∷ [])
    ∷ [])

-- two classes of five bytes each, one behind the other, and the directory behind them; class 1's offset stands at 18 and 19
abbrev touching : List ℕ
touching = let c = source 0 0 [] [] (line returns [] [] ∷ []) in bundle_of 0 (c ∷ c ∷ [])

-- a record of nine bytes whose last, the depth, is the directory's first
abbrev one_shared : List ℕ
one_shared = 12 ∷ 0 ∷ 0 ∷ 0 ∷ 2 ∷ 0 ∷ 0 ∷ 0 ∷ 0 ∷ 0 ∷ 0 ∷ 1 ∷ 0 ∷ 0 ∷ 0 ∷ 1 ∷ 0 ∷ 8 ∷ 1 ∷ 0 ∷ 0 ∷ 24 ∷ 76 ∷ 75 ∷ []

pub record Shaped : Type 0 where
  pub bundle : List ℕ
  pub verdict : Verdict
  pub apart : Bool

-- any pair bytes will do; a class byte is looked at, and so are a nullable's last two, and four zeros are no variable's;
-- where nothing is in use a reference is no better than anything else, with a pair or without;
-- records that touch are apart, and one and the same, or one byte in common, is not; 8 comes first
abbrev pub shaped : List Shaped
shaped =
    record { bundle = stored_as (reference 0 0 0); verdict = verdict 0 1 0; apart = true }
    ∷ record { bundle = stored_as (reference 0 255 255); verdict = verdict 0 1 0; apart = true }
    ∷ record { bundle = stored_as (reference 1 0 0); verdict = verdict 8 0 3; apart = true }
    ∷ record { bundle = stored_as (nullable 0); verdict = verdict 0 1 0; apart = true }
    ∷ record { bundle = stored_as (4 ∷ 0 ∷ 1 ∷ 0 ∷ []); verdict = verdict 8 0 3; apart = true }
    ∷ record { bundle = stored_as none; verdict = verdict 8 0 3; apart = true }
    ∷ record { bundle = set (stored_as top) 35 3; verdict = verdict 8 0 3; apart = true }
    ∷ record { bundle = set (set (stored_as top) 35 3) 38 64; verdict = verdict 8 0 3; apart = true }
    ∷ record { bundle = touching; verdict = verdict 0 2 0; apart = true }
    ∷ record { bundle = set touching 19 0; verdict = verdict 0 2 0; apart = false }
    ∷ record { bundle = one_shared; verdict = verdict 0 1 0; apart = false }
    ∷ record { bundle = set (set touching 19 0) 4 1; verdict = verdict 8 0 1; apart = false }
    ∷ []

abbrev pub found : Shaped → Verdict × Bool
found s = (shape_verdict s.bundle, all_apart s.bundle)

abbrev pub wanted : Shaped → Verdict × Bool
wanted s = (s.verdict, s.apart)

-- `shaped-hold`
abbrev pub ShapedHold : Type 0
ShapedHold = map found shaped ≡ map wanted shaped
