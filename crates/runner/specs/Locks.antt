-- What monitorenter and monitorexit write into the memory. Nothing here has to be believed: `Turned` (Poised) ties it to document 01's step.
use Rattle.std.specs.Prelude.{List, Bool, cond, not, ℕ, ◌+◌, ◌*◌, ◌-◌, ◌/◌, ◌%◌, ◌^◌, leb, eqb, set}
use Rattle.std.specs.Int.Bits.{bit_or}
use Rattle.ground.specs.Bytes.{at}
use Rattle.held.specs.Word.{marked}
use Rattle.memory.specs.Words.{object_in}
use Rattle.memory.specs.Frames.{var_in, went_in}
use Rattle.runner.specs.declared.running.Memory.{Memory}
use Rattle.runner.specs.Memory.{memory, frame_of, Acted, acted, threw_in}

-- the bits of all held words
abbrev pub all_held : List ℕ → ℕ
all_held held =
    bit_or (bit_or (bit_or (bit_or (bit_or (bit_or (bit_or (at held 0) (at held 1)) (at held 2)) (at held 3)) (at held 4)) (at held 5)) (at held 6)) (at held 7)

-- some word has the bit of o, and that of thread i has not
unfoldable pub held_by_other : List ℕ → ℕ → ℕ → Bool
held_by_other held i o = not (eqb (all_held held / 2 ^ o % 2) (at held i / 2 ^ o % 2))

-- thread i goes on, its count of o becomes n, and bit o of its word goes with it
abbrev pub counted_in : Memory → ℕ → ℕ → ℕ → ℕ → Memory
counted_in m i o n to =
    memory (set m.frames i (went_in (frame_of m.frames i) to)) (set m.counts (i * 32 + o) n) (set m.held i (marked (at m.held i) o n)) m.objects m.classes m.fields

-- the object that variable v of thread i refers to
abbrev pub lock_in : Memory → ℕ → ℕ → ℕ
lock_in m i v = object_in (var_in (frame_of m.frames i) v)

-- monitorenter adds one to the count, unless another thread holds the object (3); null throws object 0
unfoldable pub entered_in : Memory → ℕ → ℕ → ℕ → ℕ → ℕ → Acted
entered_in m i vars v h to =
    cond (leb 4294967552 (var_in (frame_of m.frames i) v)) (threw_in m i vars h 4294967296)
    (cond (held_by_other m.held i (lock_in m i v)) (acted 3 m)
    (acted 0 (counted_in m i (lock_in m i v) (at m.counts (i * 32 + lock_in m i v) + 1) to)))

-- monitorexit takes one away
unfoldable pub left_in : Memory → ℕ → ℕ → ℕ → Memory
left_in m i v to = counted_in m i (lock_in m i v) (at m.counts (i * 32 + lock_in m i v) - 1) to
