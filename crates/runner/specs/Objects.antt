-- What one object more, and new, write into the memory. Nothing here has to be believed: `Turned` (Poised) ties it to document 01's step.
use Rattle.std.specs.Prelude.{List, Bool, cond, ◌||◌, ℕ, ◌+◌, ◌*◌, leb, set}
use Rattle.ground.specs.Bytes.{at}
use Rattle.memory.specs.Frames.{went_in, pushed_in}
use Rattle.runner.specs.declared.running.Memory.{Memory}
use Rattle.runner.specs.Memory.{memory, frame_of, framed, Acted, acted, threw_in}

-- what the four field places of object o hold at first
abbrev pub fields_in : List ℕ → ℕ → List ℕ → List ℕ
fields_in fields o first = set (set (set (set fields (o * 4) (at first 0)) (o * 4 + 1) (at first 1)) (o * 4 + 2) (at first 2)) (o * 4 + 3) (at first 3)

-- the next object number, an object of class c
unfoldable pub added_in : Memory → ℕ → List ℕ → Memory
added_in m c first = memory m.frames m.counts m.held (m.objects + 1) (set m.classes m.objects c) (fields_in m.fields m.objects first)

-- new takes the next object number; one that fails throws object 0
unfoldable pub new_in : Memory → ℕ → ℕ → Bool → ℕ → List ℕ → ℕ → ℕ → Acted
new_in m i vars fails c first h to =
    cond (fails || leb 32 m.objects) (threw_in m i vars h 4294967296)
    (acted 0 (added_in (framed m i (went_in (pushed_in (frame_of m.frames i) (4294967296 + m.objects)) to)) c first))
