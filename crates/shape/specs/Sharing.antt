-- Document 02, Q-5, refusal 23 in the request's words: a record shares a byte with another or with the directory. That the test `all_apart` says exactly this is `shared-exactly`.
use Rattle.std.specs.Prelude.{List, ◌≡◌, false, ℕ, ◌+◌, ◌*◌, ◌≤◌, ◌<◌}
use Rattle.bundle.specs.Container.{directory_at, classes, class_at, size}
use Rattle.verdicts.specs.Verdicts.{is_bad}
use Rattle.shape.specs.Shape.{shape_verdict}
use Rattle.shape.specs.Apart.{all_apart}

-- the byte at place p is one of class c's record
pub record InRecord (b : List ℕ) (c p : ℕ) : Type 0 where
  pub class_known : c < classes b
  pub begun : (class_at b c).offset ≤ p
  pub not_over : p < (class_at b c).offset + size (class_at b c)

-- .. one of the directory
pub record InDirectory (b : List ℕ) (p : ℕ) : Type 0 where
  pub begun : directory_at b ≤ p
  pub not_over : p < directory_at b + 8 * classes b

-- some byte is one of two classes' records, or of a record and of the directory
pub data Shared (b : List ℕ) : Type 0 where
  with_another : (c d p : ℕ) → (d ≡ c → ⊥) → InRecord b c p → InRecord b d p → Shared b
  with_directory : (c p : ℕ) → InRecord b c p → InDirectory b p → Shared b

-- past refusals 1 to 8
abbrev pub SharedExactly : Type 0
SharedExactly = (b : List ℕ) → is_bad (shape_verdict b) ≡ false → (all_apart b ≡ false → Shared b) × (Shared b → all_apart b ≡ false)
