-- What start writes into the memory. Nothing here has to be believed: `Turned` (Poised) ties it to document 01's step.
use Rattle.std.specs.Prelude.{List, Bool, cond, not, Option, Some, None, ℕ, ◌+◌, leb}
use Rattle.ground.specs.Bounded.{first_below}
use Rattle.memory.specs.declared.Frame.{Frame}
use Rattle.memory.specs.Tab.{tab}
use Rattle.memory.specs.Frames.{live_in, argument_in, begun_in, went_in, dropped_in}
use Rattle.runner.specs.declared.running.Memory.{Memory}
use Rattle.runner.specs.Memory.{frame_of, framed, Acted, acted}

abbrev pub idle_in : List Frame → ℕ → Bool
idle_in frames j = not (live_in (frame_of frames j))

-- the lowest thread number that is free, 8 where there is none
unfoldable pub lowest_in : List Frame → ℕ
lowest_in frames = first_below 8 (idle_in frames)

-- .. as it is found
abbrev pub place_in : Option ℕ → ℕ
place_in (Some j) = j
place_in None = 8

-- thread j begins at address 1 of class c with the top n entries of thread i
abbrev pub begun_by : Memory → ℕ → ℕ → ℕ → ℕ → Memory
begun_by m i n c j = framed m j (begun_in (frame_of m.frames j) (tab 16 (argument_in (frame_of m.frames i) n)) c)

-- .. which goes on without them and the object below
abbrev pub handed_by : Memory → ℕ → ℕ → ℕ → Memory
handed_by m i n to = framed m i (went_in (dropped_in (n + 1) (frame_of m.frames i)) to)

-- 4 where eight threads are live
unfoldable pub started_in : Memory → ℕ → ℕ → ℕ → ℕ → Acted
started_in m i n c to = cond (leb 8 (lowest_in m.frames)) (acted 4 m) (acted 0 (handed_by (begun_by m i n c (lowest_in m.frames)) i n to))
