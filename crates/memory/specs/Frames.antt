-- One thread as a frame of 36 words: sixteen variables, sixteen stack places from the bottom, and its class, address, depth and whether it is live; and each move
-- of document 01 as what it writes. A move takes every place modulo 16.
-- Nothing here has to be believed: the laws of proofs/Frames say of each move that it is the change of `threads`, where the thread has what the move takes.
use Rattle.std.specs.Prelude.{◌≡◌, List, Bool, cond, not, ℕ, zero, suc, ◌+◌, ◌-◌, ◌%◌, ltb, eqb, length, set, replicate}
use Rattle.ground.specs.Bytes.{at}
use Rattle.instructions.specs.Table.{addr}
use Rattle.values.specs.declared.Slot.{Slot}
use Rattle.threads.specs.declared.Thread.{Thread}
use Rattle.memory.specs.Tab.{tab}
use Rattle.memory.specs.Words.{slot_of}
use Rattle.memory.specs.declared.Frame.{Frame}

-- sixteen variables and sixteen stack places
pub record Sixteen (p : Frame) : Type 0 where
  pub vars_16 : length p.vars ≡ 16
  pub stack_16 : length p.stack ≡ 16

-- no thread's frame: not live, and all else 0
abbrev pub empty_frame : Frame
empty_frame = record { vars = replicate 16 0; stack = replicate 16 0; class = 0; at = 0; depth = 0; live = 0 }

-- the value at place v of these words
abbrev pub slot_in : List ℕ → ℕ → Slot
slot_in words v = slot_of (at words v)

abbrev pub live_in : Frame → Bool
live_in p = not (eqb p.live 0)

abbrev pub class_in : Frame → ℕ
class_in p = p.class % 256

abbrev pub address_in : Frame → ℕ
address_in p = p.at % 65536

abbrev pub depth_in : Frame → ℕ
depth_in p = p.depth % 256

-- the thread that the frame is
abbrev pub thread_in : Frame → Thread
thread_in p =
    record {
      live = live_in p;
      class = class_in p;
      at = addr (address_in p);
      depth = depth_in p;
      vars = tab 16 (slot_in p.vars);
      stack = tab 16 (slot_in p.stack);
    }

-- the stack place of the top
abbrev pub top_place : Frame → ℕ
top_place p = (p.depth % 16 + 15) % 16

abbrev pub top_in : Frame → ℕ
top_in p = at p.stack (top_place p)

-- the entry under the top
abbrev pub under_in : Frame → ℕ
under_in p = at p.stack ((p.depth % 16 + 14) % 16)

abbrev pub var_in : Frame → ℕ → ℕ
var_in p v = at p.vars (v % 16)

-- other variables
abbrev pub with_words : Frame → List ℕ → Frame
with_words p l = record { vars = l; stack = p.stack; class = p.class; at = p.at; depth = p.depth; live = p.live }

-- another stack, of depth d
abbrev pub with_places : Frame → List ℕ → ℕ → Frame
with_places p l d = record { vars = p.vars; stack = l; class = p.class; at = p.at; depth = d; live = p.live }

-- on to an address
abbrev pub went_in : Frame → ℕ → Frame
went_in p to = record { vars = p.vars; stack = p.stack; class = p.class; at = to; depth = p.depth; live = p.live }

-- the top changed in place
abbrev pub topped_in : Frame → ℕ → Frame
topped_in p w = with_places p (set p.stack (top_place p) w) p.depth

-- w on the stack
abbrev pub pushed_in : Frame → ℕ → Frame
pushed_in p w = with_places p (set p.stack (p.depth % 16) w) (p.depth % 16 + 1)

-- the top gone: its place becomes 0
abbrev pub popped_in : Frame → Frame
popped_in p = with_places p (set p.stack (top_place p) 0) (top_place p)

-- n entries gone from the top
unfoldable pub dropped_in : ℕ → Frame → Frame
dropped_in zero p = p
dropped_in (suc n) p = popped_in (dropped_in n p)

-- w in the variable v
abbrev pub stored_in : Frame → ℕ → ℕ → Frame
stored_in p v w = with_words p (set p.vars (v % 16) w)

-- `if`: to the address a where the top isn't 0, and else on
abbrev pub branched_in : Frame → ℕ → ℕ → Frame
branched_in p a to = went_in (popped_in p) (cond (eqb (top_in p) 0) to a)

-- n variables become 0
unfoldable pub cleared_in : ℕ → Frame → Frame
cleared_in zero p = p
cleared_in (suc n) p = with_words (cleared_in n p) (set (cleared_in n p).vars (n % 16) 0)

-- the stack emptied
abbrev pub emptied_in : Frame → Frame
emptied_in p = dropped_in (p.depth % 32) p

-- at rest, with the words it has
abbrev pub rested_in : Frame → Frame
rested_in p = record { vars = p.vars; stack = p.stack; class = 0; at = 0; depth = 0; live = 0 }

-- an ended thread, of which so many variables were in use
abbrev pub ended_in : Frame → ℕ → Frame
ended_in p vars = rested_in (emptied_in (cleared_in vars p))

-- the stack emptied, and w alone on it
abbrev pub caught_in : Frame → ℕ → Frame
caught_in p w = pushed_in (emptied_in p) w

-- w is thrown to the handler h; with none, the thread ends
abbrev pub thrown_in : Frame → ℕ → ℕ → ℕ → Frame
thrown_in p vars h w = cond (eqb h 0) (ended_in p vars) (went_in (caught_in p w) h)

-- variable v of a thread that is started with the top n entries
abbrev pub argument_in : Frame → ℕ → ℕ → ℕ
argument_in p n v = cond (ltb v n) (at p.stack ((p.depth % 16 + 31 - v) % 16)) 0

-- a thread at address 1 of class c with these variables; its stack places are as they were
abbrev pub begun_in : Frame → List ℕ → ℕ → Frame
begun_in p vars c = record { vars = vars; stack = p.stack; class = c; at = 1; depth = 0; live = 1 }
