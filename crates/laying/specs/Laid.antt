-- Document 02, Q-12: the bundle that the slices are laid out to: records in class order, directory, trailer, as document 01 has them. Where the pairs go, which are worked out later, stands 0.
use Rattle.std.specs.Prelude.{List, [], ◌∷◌, ◌++◌, ℕ, ◌+◌, ◌*◌, ◌/◌, ◌%◌}
use Rattle.ground.specs.Bytes.{at, part}
use Rattle.ground.specs.Lists.{each}
use Rattle.bundle.specs.declared.Class.{Class}
use Rattle.bundle.specs.Container.{descriptor_count}
use Rattle.laying.specs.Given.{Given, numbers_at}
use Rattle.laying.specs.Lengths.{code_bytes, entries, kind_bytes, descriptors_before, instructions_before, kinds_before, depths_before, records_before, whole}

-- two-byte numbers are big-endian
unfoldable pub word : ℕ → List ℕ
word x = x / 256 ∷ x % 256 ∷ []

-- ---- a record, of the class's numbers k and its own descriptors ds, instructions is, kinds ts and depths ps
-- entry i of the kinds: kind and class as given, dip and end 0
unfoldable pub entry_laid : List ℕ → ℕ → List ℕ
entry_laid ts i = at ts (2 * i) ∷ at ts (2 * i + 1) ∷ 0 ∷ 0 ∷ []

-- n entries from the one numbered s on
unfoldable pub entries_laid : List ℕ → ℕ → ℕ → List ℕ
entries_laid ts s n = each n (λ j. entry_laid ts (s + j))

-- a row, which i others come before: V variable entries, one byte of stack depth, K stack entries, top first
unfoldable pub row_laid : Class → List ℕ → List ℕ → ℕ → List ℕ
row_laid k ts ps i =
    entries_laid ts (i * entries k) k.vars ++ (at ps i ∷ entries_laid ts (i * entries k + k.vars) k.limit)

-- the descriptors; k instructions; k rows
unfoldable pub record_laid : Class → List ℕ → List ℕ → List ℕ → List ℕ → List ℕ
record_laid k ds is ts ps = ds ++ (is ++ each k.code (row_laid k ts ps))

-- ---- class c's own part of each slice; d are the directory numbers
-- the n bytes of s from a on
abbrev pub cut : List ℕ → ℕ → ℕ → List ℕ
cut s a n = part s a (a + n)

abbrev pub descriptors_of : List ℕ → List ℕ → ℕ → List ℕ
descriptors_of d ds c = cut ds (descriptors_before d c) (descriptor_count (numbers_at d c))

abbrev pub instructions_of : List ℕ → List ℕ → ℕ → List ℕ
instructions_of d is c = cut is (instructions_before d c) (code_bytes (numbers_at d c))

abbrev pub kinds_of : List ℕ → List ℕ → ℕ → List ℕ
kinds_of d ts c = cut ts (kinds_before d c) (kind_bytes (numbers_at d c))

abbrev pub depths_of : List ℕ → List ℕ → ℕ → List ℕ
depths_of d ps c = cut ps (depths_before d c) (numbers_at d c).code

-- ---- the bundle
unfoldable pub record_of : Given → ℕ → List ℕ
record_of g c =
    record_laid (numbers_at g.directory c) (descriptors_of g.directory g.descriptors c) (instructions_of g.directory g.instructions c)
    (kinds_of g.directory g.kinds c) (depths_of g.directory g.depths c)

-- the directory holds eight bytes a class: record offset (2), then n, V, K, f and k (2) as they are given
unfoldable pub head_laid : List ℕ → ℕ → List ℕ
head_laid d c = word (records_before d c) ++ cut d (6 * c) 6

-- the last eight bytes: directory offset r (2), class count n (1), the exception class x (1), whole length w (2), the bytes 4C 4B
unfoldable pub trailer_laid : ℕ → ℕ → ℕ → ℕ → List ℕ
trailer_laid r n x w = word r ++ (n ∷ x ∷ []) ++ word w ++ (76 ∷ 75 ∷ [])

-- records in class order, directory, trailer
unfoldable pub laid : Given → List ℕ
laid g =
    each g.classes (record_of g)
    ++ each g.classes (head_laid g.directory)
    ++ trailer_laid (records_before g.directory g.classes) g.classes g.exception (whole g.directory g.classes)
