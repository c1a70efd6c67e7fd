-- Document 02, Q-5, refusal 23: a record shares a byte with another or with the directory.
use Rattle.std.specs.Prelude.{List, ◌≡◌, Bool, true, false, ◌&&◌, ◌||◌, ℕ, ◌+◌, ◌*◌, leb}
use Rattle.ground.specs.Bounded.{all_below}
use Rattle.bundle.specs.declared.Class.{Class}
use Rattle.bundle.specs.Container.{directory_at, classes, class_at, size}
use Rattle.verdicts.specs.Verdicts.{is_bad}
use Rattle.shape.specs.Shape.{shape_verdict}

-- the m bytes from a on and the n bytes from e on have none in common (neither is empty)
unfoldable pub apart : ℕ → ℕ → ℕ → ℕ → Bool
apart a m e n = leb (a + m) e || leb (e + n) a

unfoldable pub apart_from : List ℕ → Class → ℕ → Bool
apart_from b k d = let j = class_at b d in apart k.offset (size k) j.offset (size j)

unfoldable pub lower_apart : List ℕ → Class → ℕ → Bool
lower_apart b k c = all_below c (apart_from b k)

unfoldable pub directory_apart : List ℕ → Class → Bool
directory_apart b k = apart k.offset (size k) (directory_at b) (8 * classes b)

-- class c's record shares no byte with the directory nor with a record of a lower class
unfoldable pub class_apart : List ℕ → ℕ → Bool
class_apart b c = let k = class_at b c in directory_apart b k && lower_apart b k c

-- 23: no record shares a byte with another or with the directory
unfoldable pub all_apart : List ℕ → Bool
all_apart b = all_below (classes b) (class_apart b)

-- past refusals 1 to 8 and 23
pub record Readable (b : List ℕ) : Type 0 where
  pub shaped : is_bad (shape_verdict b) ≡ false
  pub apart : all_apart b ≡ true
