-- A state as bytes, in the format of `hveitmar_trace`: eight threads of 165 bytes, 256 counts of two, the number of objects, 32 class numbers, 128 field places of five bytes and eight held words of four: 2,537 bytes. Numbers are big-endian.
use Rattle.std.specs.Prelude.{Bool, cond, ◌&&◌, List, ℕ, ◌+◌, ◌*◌, ltb, leb, eqb, length, replicate}
use Rattle.ground.specs.Bytes.{at, be16, quad}
use Rattle.ground.specs.Bounded.{all_below, set_below}
use Rattle.instructions.specs.Table.{addr}
use Rattle.values.specs.declared.Slot.{Slot}
use Rattle.values.specs.Values.{zero_slot, ref_slot, null_slot, int_slot}
use Rattle.threads.specs.declared.Thread.{Thread}
use Rattle.threads.specs.Threads.{idle}
use Rattle.state.specs.declared.State.{State}

-- a place is a kind byte (0 integer, 1 reference, 2 null) and four bytes: of a reference the low one, of null 0
unfoldable pub is_place : List ℕ → ℕ → Bool
is_place g p =
    cond (eqb (at g p) 1) (ltb (quad g (p + 1)) 256)
    (cond (eqb (at g p) 2) (eqb (quad g (p + 1)) 0)
    (eqb (at g p) 0))

unfoldable pub place_of : List ℕ → ℕ → Slot
place_of g p =
    cond (eqb (at g p) 1) (ref_slot (at g (p + 4)))
    (cond (eqb (at g p) 2) null_slot
    (int_slot (quad g (p + 1))))

-- the place i of those that begin at p
abbrev pub is_place_at : List ℕ → ℕ → ℕ → Bool
is_place_at g p i = is_place g (p + i * 5)

abbrev pub place_at : List ℕ → ℕ → ℕ → Slot
place_at g p i = place_of g (p + i * 5)

-- a thread is live (0 or 1), class, address (2), depth, sixteen variables, sixteen stack places from the bottom
unfoldable pub is_thread : List ℕ → ℕ → Bool
is_thread g p = leb (at g p) 1 && all_below 32 (is_place_at g (p + 5))

unfoldable pub thread_of : List ℕ → ℕ → Thread
thread_of g p =
    record {
      live = eqb (at g p) 1;
      class = at g (p + 1);
      at = addr (be16 g (p + 2));
      depth = at g (p + 4);
      vars = set_below 16 (place_at g (p + 5)) (replicate 16 zero_slot);
      stack = set_below 16 (place_at g (p + 85)) (replicate 16 zero_slot);
    }

abbrev pub is_thread_at : List ℕ → ℕ → Bool
is_thread_at g i = is_thread g (i * 165)

abbrev pub threads_at : List ℕ → ℕ → Thread
threads_at g i = thread_of g (i * 165)

-- thread × 32 + object
abbrev pub count_at : List ℕ → ℕ → ℕ
count_at g i = be16 g (1320 + i * 2)

abbrev pub class_at : List ℕ → ℕ → ℕ
class_at g i = at g (1833 + i)

abbrev pub word_at : List ℕ → ℕ → ℕ
word_at g i = quad g (2505 + i * 4)

-- the bytes are a state in this format
unfoldable pub is_state : List ℕ → Bool
is_state g = eqb (length g) 2537 && all_below 128 (is_place_at g 1865) && all_below 8 (is_thread_at g)

-- .. and the state that they are; field places stand object by object, four each
unfoldable pub state_of : List ℕ → State
state_of g =
    record {
      threads = set_below 8 (threads_at g) (replicate 8 idle);
      counts = set_below 256 (count_at g) (replicate 256 0);
      objects = at g 1832;
      classes = set_below 32 (class_at g) (replicate 32 0);
      fields = set_below 128 (place_at g 1865) (replicate 128 zero_slot);
      held = set_below 8 (word_at g) (replicate 8 0);
    }
