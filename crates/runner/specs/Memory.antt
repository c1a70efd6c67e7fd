-- A running machine as arrays, which its steps change in place, and the state that they stand for.
use Rattle.std.specs.Prelude.{◌≡◌, List, [], cond, ℕ, ◌<◌, eqb, length, get_or, set}
use Rattle.values.specs.declared.Slot.{Slot}
use Rattle.threads.specs.declared.Thread.{Thread}
use Rattle.state.specs.declared.State.{State}
use Rattle.memory.specs.declared.Frame.{Frame}
use Rattle.memory.specs.Tab.{tab}
use Rattle.memory.specs.Frames.{Sixteen, slot_in, thread_in, thrown_in}
use Rattle.runner.specs.declared.running.Memory.{Memory}

-- a frame for each thread, and a word for each field place; counts, held words, the number of objects and their classes are the state's own
abbrev pub memory : List Frame → List ℕ → List ℕ → ℕ → List ℕ → List ℕ → Memory
memory frames counts held objects classes fields =
    record { frames = frames; counts = counts; held = held; objects = objects; classes = classes; fields = fields }

-- what stands where there is no frame
abbrev pub no_frame : Frame
no_frame = record { vars = []; stack = []; class = 0; at = 0; depth = 0; live = 0 }

-- the frame of thread i
abbrev pub frame_of : List Frame → ℕ → Frame
frame_of frames i = get_or frames i no_frame

-- .. and the memory with another one
abbrev pub framed : Memory → ℕ → Frame → Memory
framed m i p = memory (set m.frames i p) m.counts m.held m.objects m.classes m.fields

abbrev pub thread_from : List Frame → ℕ → Thread
thread_from frames i = thread_in (frame_of frames i)

abbrev pub slot_from : List ℕ → ℕ → Slot
slot_from fields k = slot_in fields k

abbrev pub state_from : Memory → State
state_from m =
    record {
      threads = tab 8 (thread_from m.frames);
      counts = m.counts;
      objects = m.objects;
      classes = m.classes;
      fields = tab 128 (slot_from m.fields);
      held = m.held;
    }

-- eight frames, each with its sixteen variables and stack places, and 128 field places
pub record Sized (frames : List Frame) (fields : List ℕ) : Type 0 where
  pub frames_8 : length frames ≡ 8
  pub frame_16 : (i : ℕ) → i < 8 → Sixteen (frame_of frames i)
  pub fields_128 : length fields ≡ 128

-- the answer of an instruction, and what the memory is after it
pub record Acted : Type 0 where
  pub answer : ℕ
  pub after : Memory

abbrev pub acted : ℕ → Memory → Acted
acted answer after = record { answer = answer; after = after }

-- w is thrown in thread i, which has so many variables
abbrev pub threw_in : Memory → ℕ → ℕ → ℕ → ℕ → Acted
threw_in m i vars h w = acted (cond (eqb h 0) 2 0) (framed m i (thrown_in (frame_of m.frames i) vars h w))
