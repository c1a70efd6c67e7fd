-- Document 01, verdicts 1 to 7: each condition that a bundle may break, as the table words it.
use Rattle.std.specs.Prelude.{List, Bool, ◌&&◌, ◌||◌, not, ℕ, ◌+◌, ◌-◌, ◌*◌, length, leb, ltb, eqb}
use Rattle.ground.specs.Bytes.{at, be16}
use Rattle.ground.specs.Bounded.{all_below}
use Rattle.instructions.specs.Table.{instruction_ok}
use Rattle.bundle.specs.declared.Class.{Class}
use Rattle.bundle.specs.Container.{directory_at, classes, exception, fields_of, descriptor_count, code_at}

-- 1: length below 8 or above 65,535
unfoldable pub length_ok : List ℕ → Bool
length_ok b = leb 8 (length b) && leb (length b) 65535

-- 2: trailer bytes (4C 4B) or length wrong (the spare byte is 3's since document 02, Q-6)
unfoldable pub trailer_ok : List ℕ → Bool
trailer_ok b =
    eqb (at b (length b - 2)) 76
    && eqb (at b (length b - 1)) 75
    && eqb (be16 b (length b - 4)) (length b)

-- 3: class count not 1..8, or directory passes length - 8, or the spare byte names no class
unfoldable pub directory_ok : List ℕ → Bool
directory_ok b =
    leb 1 (classes b)
    && leb (classes b) 8
    && leb (directory_at b + 8 * classes b) (length b - 8)
    && ltb (exception b) (classes b)

-- class 0 is main and has n = 0
unfoldable pub main_ok : ℕ → Class → Bool
main_ok c k = not (eqb c 0) || eqb k.args 0

-- k 1 to 256
unfoldable pub code_ok : Class → Bool
code_ok k = leb 1 k.code && leb k.code 256

-- 4: a directory limit broken (n ≤ V ≤ 16; K ≤ 16; at most four fields: document 02, Q-8)
unfoldable pub limits_ok : ℕ → Class → Bool
limits_ok c k =
    leb k.args k.vars
    && leb k.vars 16
    && leb k.limit 16
    && leb k.fields 4
    && main_ok c k
    && code_ok k

-- (5: record passes length - 8: `record_fits` of `bundle`)

-- FF is Int, otherwise a class number
unfoldable pub descriptor_ok : ℕ → List ℕ → ℕ → Bool
descriptor_ok n r i = eqb (at r i) 255 || ltb (at r i) n

-- 6: a descriptor, of an argument or a field, neither FF nor a class
unfoldable pub descriptors_ok : ℕ → Class → List ℕ → Bool
descriptors_ok n k r = all_below (descriptor_count k) (descriptor_ok n r)

-- 7: an instruction breaks the table
unfoldable pub address_ok : List ℕ → Class → List ℕ → ℕ → Bool
address_ok b k r l = instruction_ok (classes b) (fields_of b) k.vars k.code l (code_at k r l)
