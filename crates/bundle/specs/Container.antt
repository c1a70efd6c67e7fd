-- Document 01, the bundle: what stands where. Every read is total; what a broken bundle gives is judged by `structure`.
use Rattle.std.specs.Prelude.{List, [], Bool, ◌&&◌, ℕ, ◌+◌, ◌-◌, ◌*◌, length, leb}
use Rattle.ground.specs.Bytes.{at, be16, part}
use Rattle.ground.specs.Chain.{refuse}
use Rattle.instructions.specs.declared.Instruction.{Instruction}
use Rattle.instructions.specs.declared.Code.{Code}
use Rattle.instructions.specs.Table.{decoded}
use Rattle.bundle.specs.declared.Class.{Class}

-- the last eight bytes are a trailer that points back: directory offset (2), class count (1), ..
abbrev pub directory_at : List ℕ → ℕ
directory_at b = be16 b (length b - 8)

abbrev pub classes : List ℕ → ℕ
classes b = at b (length b - 6)

-- the trailer's spare byte names the bundle's exception class (document 02, Q-6)
abbrev pub exception : List ℕ → ℕ
exception b = at b (length b - 5)

-- record offset (2), arguments n (1), variables V (1), stack limit K (1), fields f (1; document 02, Q-8), code length k (2), at a place of the directory
unfoldable pub head_at : List ℕ → ℕ → Class
head_at b d =
    record {
      offset = be16 b d;
      args = at b (d + 2);
      vars = at b (d + 3);
      limit = at b (d + 4);
      fields = at b (d + 5);
      code = be16 b (d + 6);
    }

-- the directory holds eight bytes a class
unfoldable pub class_at : List ℕ → ℕ → Class
class_at b c = head_at b (directory_at b + 8 * c)

-- how many fields class c has
abbrev pub fields_of : List ℕ → ℕ → ℕ
fields_of b c = (class_at b c).fields

-- a row has V variable entries, one byte of stack depth, and K stack entries; an entry is four bytes
unfoldable pub width : Class → ℕ
width k = 4 * k.vars + 1 + 4 * k.limit

-- how many descriptors a record begins with: n of arguments, f of fields
abbrev pub descriptor_count : Class → ℕ
descriptor_count k = k.args + k.fields

-- the descriptors; k instructions of four bytes; k rows
unfoldable pub size : Class → ℕ
size k = descriptor_count k + 4 * k.code + k.code * width k

-- the record does not pass length - 8
unfoldable pub record_fits : List ℕ → Class → Bool
record_fits b k = leb (k.offset + size k) (length b - 8)

-- the part of the bundle that begins at the record's offset; empty where the record does not fit
unfoldable pub part_of : List ℕ → Class → List ℕ
part_of b k = refuse (record_fits b k) [] (part b k.offset (k.offset + size k))

-- .. and where in the bundle that is
unfoldable pub part_place : List ℕ → Class → ℕ
part_place b k = refuse (record_fits b k) 0 k.offset

-- where the instruction at address l stands in a record
unfoldable pub instruction_place : Class → ℕ → ℕ
instruction_place k l = descriptor_count k + 4 * (l - 1)

-- the instruction at place p of a record, as it stands
unfoldable pub code_from : List ℕ → ℕ → Code
code_from r p = record { opcode = at r p; operand = at r (p + 1); address = be16 r (p + 2) }

-- four zeros are no instruction
abbrev pub no_code : Code
no_code = record { opcode = 0; operand = 0; address = 0 }

-- addresses run from 1 to k; another holds no instruction
unfoldable pub code_at : Class → List ℕ → ℕ → Code
code_at k r l = refuse (leb 1 l && leb l k.code) no_code (code_from r (instruction_place k l))

unfoldable pub instruction_at : Class → List ℕ → ℕ → Instruction
instruction_at k r l = decoded (code_at k r l)

-- the descriptor of field i, behind the arguments'
unfoldable pub field_at : Class → List ℕ → ℕ → ℕ
field_at k r i = at r (k.args + i)
