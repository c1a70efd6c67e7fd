-- What getfield and putfield write into the memory. Nothing here has to be believed: `Turned` (Poised) ties it to document 01's step.
use Rattle.std.specs.Prelude.{cond, ℕ, ◌+◌, ◌*◌, leb, set}
use Rattle.ground.specs.Bytes.{at}
use Rattle.memory.specs.Words.{object_in}
use Rattle.memory.specs.Frames.{top_in, under_in, went_in, topped_in, dropped_in}
use Rattle.runner.specs.declared.running.Memory.{Memory}
use Rattle.runner.specs.Memory.{memory, frame_of, framed, Acted, acted, threw_in}

-- getfield takes the owner from the top and pushes what its field f holds; a null owner throws object 0
unfoldable pub got_in : Memory → ℕ → ℕ → ℕ → ℕ → ℕ → Acted
got_in m i vars f h to =
    cond (leb 4294967552 (top_in (frame_of m.frames i))) (threw_in m i vars h 4294967296)
    (acted 0 (framed m i (went_in (topped_in (frame_of m.frames i) (at m.fields (object_in (top_in (frame_of m.frames i)) * 4 + f))) to)))

-- putfield takes the value from the top, then the owner, and puts the value into its field f; a null owner throws object 0
unfoldable pub put_in : Memory → ℕ → ℕ → ℕ → ℕ → ℕ → Acted
put_in m i vars f h to =
    cond (leb 4294967552 (under_in (frame_of m.frames i))) (threw_in m i vars h 4294967296)
    (acted 0
    (memory (set m.frames i (went_in (dropped_in 2 (frame_of m.frames i)) to)) m.counts m.held m.objects m.classes
    (set m.fields (object_in (under_in (frame_of m.frames i)) * 4 + f) (top_in (frame_of m.frames i)))))
