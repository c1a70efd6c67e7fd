-- Document 02, Q-12: what the class count and the directory numbers ask of the slices, and how long the bundle is.
use Rattle.std.specs.Prelude.{List, Bool, ◌&&◌, ℕ, ◌+◌, ◌*◌, leb, eqb, length}
use Rattle.ground.specs.Bounded.{sum_below}
use Rattle.bundle.specs.declared.Class.{Class}
use Rattle.bundle.specs.Container.{descriptor_count, size}
use Rattle.laying.specs.Given.{numbers_at}

-- ---- the bytes of one class
-- instructions of four bytes
abbrev pub code_bytes : Class → ℕ
code_bytes k = 4 * k.code

-- how many entries a row has
abbrev pub entries : Class → ℕ
entries k = k.vars + k.limit

-- kinds: for each row V + K entries of two bytes, kind and class
unfoldable pub kind_bytes : Class → ℕ
kind_bytes k = k.code * (2 * entries k)

-- ---- of the first c classes, whose directory numbers stand in d
unfoldable pub descriptors_before : List ℕ → ℕ → ℕ
descriptors_before d c = sum_below c (λ i. descriptor_count (numbers_at d i))

unfoldable pub instructions_before : List ℕ → ℕ → ℕ
instructions_before d c = sum_below c (λ i. code_bytes (numbers_at d i))

unfoldable pub kinds_before : List ℕ → ℕ → ℕ
kinds_before d c = sum_below c (λ i. kind_bytes (numbers_at d i))

-- depths: one byte a row
unfoldable pub depths_before : List ℕ → ℕ → ℕ
depths_before d c = sum_below c (λ i. (numbers_at d i).code)

-- the records that they become
unfoldable pub records_before : List ℕ → ℕ → ℕ
records_before d c = sum_below c (λ i. size (numbers_at d i))

-- 27: a slice's length isn't what the class count n (1 to 8) and directory numbers ask
unfoldable pub lengths_ok : ℕ → List ℕ → List ℕ → List ℕ → List ℕ → List ℕ → Bool
lengths_ok n directory descriptors instructions kinds depths =
    leb 1 n
    && leb n 8
    && eqb (length directory) (6 * n)
    && eqb (length descriptors) (descriptors_before directory n)
    && eqb (length instructions) (instructions_before directory n)
    && eqb (length kinds) (kinds_before directory n)
    && eqb (length depths) (depths_before directory n)

-- the whole bundle: the records, eight bytes of directory a class, eight bytes of trailer
unfoldable pub whole : List ℕ → ℕ → ℕ
whole d n = records_before d n + 8 * n + 8
