-- Document 02, Q-9: refusals 30 to 34, checked in this order, with the first offender's offset in the code; 0 with the number of instructions written.
use Rattle.std.specs.Prelude.{cond, List, ℕ, ◌/◌, length, leb, eqb, Result, Ok, Err}
use Rattle.ground.specs.Chain.{refuse}
use Rattle.offsets.specs.Offsets.{total}
use Rattle.offsets.specs.Handlers.{entries, handler_of}
use Rattle.offsets.specs.Targets.{first_stray, first_stray_entry}
use Rattle.offsets.specs.Offenders.{first_unknown, first_past}
use Rattle.classfile.specs.declared.Untaken.{Untaken}
use Rattle.classfile.specs.declared.Untaken.TheVariants.{Cut, Unknown, Stray, Long, Room}
use Rattle.classfile.specs.Attribute.{whole, code_of, table_of}
use Rattle.classfile.specs.Written.{rows_to, bytes_of, laid_over}

-- 0 and the number of instructions written, or a refusal and its offset in the code
pub record Taken : Type 0 where
  pub number : ℕ
  pub offset : ℕ

abbrev pub taken : ℕ → ℕ → Taken
taken number offset = record { number = number; offset = offset }

-- of a code and its exception table, where the buffer has so many bytes of room
unfoldable pub judged : List ℕ → List ℕ → List ℕ → ℕ → Taken
judged classes code table room =
    -- 31 opcode not taken, cut off, or class not in the list
    refuse (leb (length code) (first_unknown classes code)) (taken 31 (first_unknown classes code))
    -- 32 target or handler not at the first byte of a taken instruction or at a nop with nothing written after it, the first such ifne by its own offset,
    (refuse (leb (length code) (first_stray code)) (taken 32 (first_stray code))
    -- then the first such table entry by its handler's
    (refuse (leb (entries table) (first_stray_entry code table)) (taken 32 (handler_of table (first_stray_entry code table)))
    -- 33 more than 256 instructions
    (refuse (leb (total code) 256) (taken 33 (first_past code 256))
    -- 34 buffer too short (both: the first that doesn't fit)
    (refuse (leb (total code) (room / 4)) (taken 34 (first_past code (room / 4)))
    (taken 0 (total code))))))

-- 30 input ends before the exception table does, or no code (0)
unfoldable pub taken_of : List ℕ → List ℕ → ℕ → Taken
taken_of a classes room = refuse (whole a) (taken 30 0) (judged classes (code_of a) (table_of a) room)

-- the bytes of a method's instructions
unfoldable pub bytes_taken : List ℕ → List ℕ → List ℕ → List ℕ
bytes_taken classes code table = bytes_of (rows_to classes code table (length code))

-- the lent buffer afterwards: the bytes at its start, and past them as it came; all refusals leave the buffer as it came
unfoldable pub left : Taken → List ℕ → List ℕ → List ℕ
left answer bytes out = cond (eqb answer.number 0) (laid_over bytes out) out

unfoldable pub out_of : List ℕ → List ℕ → List ℕ → List ℕ
out_of a classes out = left (taken_of a classes (length out)) (bytes_taken classes (code_of a) (table_of a)) out

-- the same as the code tells it
abbrev pub taken_in : Result ℕ Untaken → Taken
taken_in (Ok n) = taken 0 n
taken_in (Err Cut) = taken 30 0
taken_in (Err (Unknown p)) = taken 31 p
taken_in (Err (Stray p)) = taken 32 p
taken_in (Err (Long p)) = taken 33 p
taken_in (Err (Room p)) = taken 34 p
