-- Document 02, Q-5: what the call gives, and what the lent bundle holds then. b is the bundle as it came, v the answer, x the bundle as it is left.
use Rattle.std.specs.Prelude.{List, ◌≡◌, true, false, ℕ, ◌≤◌}
use Rattle.bundle.specs.Container.{classes}
use Rattle.verdicts.specs.declared.Verdict.{Verdict}
use Rattle.verdicts.specs.Verdicts.{verdict, is_bad}
use Rattle.structure.specs.Structure.{structure_of}
use Rattle.verifier.specs.Verdict.{verdict_of}
use Rattle.shape.specs.Shape.{shape_verdict}
use Rattle.shape.specs.Apart.{all_apart, Readable}
use Rattle.choices.specs.Choice.{Alike, Choice, Accepted, Least}

pub data Answer (b : List ℕ) : Verdict → List ℕ → Type 0 where
  -- refusals 1 to 8 as before, pair bytes aside; all refusals leave the buffer as it came
  malformed : is_bad (shape_verdict b) ≡ true → Answer b (shape_verdict b) b
  -- then 23 when a record shares a byte with another or with the directory
  shared : is_bad (shape_verdict b) ≡ false → all_apart b ≡ false → Answer b (verdict 23 0 0) b
  -- then 22 when no choice exists
  none : Readable b → ((x : List ℕ) → Choice b x → Accepted x → ⊥) → Answer b (verdict 22 0 0) b
  -- success: the least choice is written
  filled : {x : List ℕ} → Readable b → Least b x → Answer b (verdict 0 (classes b) 0) x

-- ---- what an answer says, number by number
pub record Means (b : List ℕ) (v : Verdict) (x : List ℕ) : Type 0 where
  -- past the refusals it succeeds where some choice is accepted
  pub fills : Readable b → (y : List ℕ) → Choice b y → Accepted y → v.number ≡ 0
  -- .. and only there, with the least one
  pub least : v.number ≡ 0 → Readable b × Least b x
  -- 22 where no choice is accepted, and only there
  pub without : Readable b → ((y : List ℕ) → Choice b y → Accepted y → ⊥) → v ≡ verdict 22 0 0
  pub nothing : v.number ≡ 22 → Readable b × ((y : List ℕ) → Choice b y → Accepted y → ⊥)
  -- 23 where 1 to 8 do not refuse and a record shares a byte with another or with the directory, and only there
  pub sharing : is_bad (shape_verdict b) ≡ false → all_apart b ≡ false → v ≡ verdict 23 0 0
  pub shares : v.number ≡ 23 → (is_bad (shape_verdict b) ≡ false) × (all_apart b ≡ false)
  -- all refusals leave the buffer as it came
  pub kept : (v.number ≡ 0 → ⊥) → x ≡ b

-- `fill-means`
abbrev pub FillMeans : Type 0
FillMeans = (b : List ℕ) (v : Verdict) (x : List ℕ) → Answer b v x → Means b v x

-- 1 to 8 as before: 1 to 7 are the verifier's own, and 8 is its own pair bytes aside; no other number is below 9 (`shape-as-before`)
abbrev pub ShapeAsBefore : Type 0
ShapeAsBefore = (b : List ℕ) (v : Verdict) (x : List ℕ) → Answer b v x
    → (is_bad (structure_of b) ≡ true → v ≡ verdict_of b) × (is_bad (shape_verdict b) ≡ true → (v ≡ shape_verdict b) × (1 ≤ v.number) × (v.number ≤ 8))

-- pair bytes are ignored as they come in: two bundles past 1 to 8 and 23 that differ in pair bytes alone get the same answer, and hold the same bytes where it is 0 (`pairs-ignored`)
abbrev pub PairsIgnored : Type 0
PairsIgnored = (b b' : List ℕ) → Readable b → Readable b' → Alike b b' → (v v' : Verdict) (x x' : List ℕ) → Answer b v x → Answer b' v' x'
    → (v ≡ v') × (v.number ≡ 0 → x ≡ x')

-- two answers to one bundle, with what they leave in it, are equal: `one_answer`
abbrev pub OneAnswer : Type 0
OneAnswer = (b : List ℕ) (v w : Verdict) (x y : List ℕ) → Answer b v x → Answer b w y → (v ≡ w) × (x ≡ y)
