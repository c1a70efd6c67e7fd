-- Document 01, the machine: eight thread numbers, 32 objects, one count for each thread and each object; four field places for each object (document 02, Q-8); and a 32-bit word for each thread beside its counts (Q-4).
use Rattle.std.specs.Prelude.{Bool, cond, not, ◌||◌, List, ℕ, ◌+◌, ◌*◌, ltb, eqb, get_or, set, replicate}
use Rattle.ground.specs.Bounded.{all_below, first_below}
use Rattle.held.specs.Word.{marked}
use Rattle.values.specs.Values.{zero_slot}
use Rattle.values.specs.declared.Slot.{Slot}
use Rattle.threads.specs.declared.Thread.{Thread}
use Rattle.threads.specs.Threads.{idle}
use Rattle.state.specs.declared.State.{State}

abbrev pub thread_at : State → ℕ → Thread
thread_at s i = get_or s.threads i idle

-- the counts stand in one flat array: thread i's count of object o
abbrev pub count_of : List ℕ → ℕ → ℕ → ℕ
count_of counts i o = get_or counts (i * 32 + o) 0

-- the class of object o
abbrev pub class_of : State → ℕ → ℕ
class_of s o = get_or s.classes o 0

abbrev pub with_thread : State → ℕ → Thread → State
with_thread s i t = record { threads = set s.threads i t; counts = s.counts; objects = s.objects; classes = s.classes; fields = s.fields; held = s.held }

-- thread i's held word
abbrev pub word_of : List ℕ → ℕ → ℕ
word_of held i = get_or held i 0

-- thread i's count of object o, below 32, becomes n, and bit o of its word goes with it (document 02, Q-4)
abbrev pub with_count : State → ℕ → ℕ → ℕ → State
with_count s i o n =
    record {
      threads = s.threads;
      counts = set s.counts (i * 32 + o) n;
      objects = s.objects;
      classes = s.classes;
      fields = s.fields;
      held = set s.held i (marked (word_of s.held i) o n);
    }

-- the field places stand in one flat array, four for each object: field f of object o
abbrev pub field_of : List Slot → ℕ → ℕ → Slot
field_of fields o f = get_or fields (o * 4 + f) zero_slot

abbrev pub with_field : State → ℕ → ℕ → Slot → State
with_field s o f x = record { threads = s.threads; counts = s.counts; objects = s.objects; classes = s.classes; fields = set s.fields (o * 4 + f) x; held = s.held }

-- object o's four field places hold what `first` does
unfoldable pub fields_with : List Slot → ℕ → List Slot → List Slot
fields_with l o first =
    set (set (set (set l (o * 4) (get_or first 0 zero_slot)) (o * 4 + 1) (get_or first 1 zero_slot)) (o * 4 + 2) (get_or first 2 zero_slot)) (o * 4 + 3) (get_or first 3 zero_slot)

-- the next object number, an object of class c, whose fields hold `first` (32 objects: past them nothing changes)
unfoldable pub with_object : State → ℕ → List Slot → State
with_object s c first =
    cond (ltb s.objects 32)
    (record {
      threads = s.threads;
      counts = s.counts;
      objects = s.objects + 1;
      classes = set s.classes s.objects c;
      fields = fields_with s.fields s.objects first;
      held = s.held;
    })
    s

-- no live thread, no object, and all else 0
abbrev pub empty_state : State
empty_state = record { threads = replicate 8 idle; counts = replicate 256 0; objects = 0; classes = replicate 32 0; fields = replicate 128 zero_slot; held = replicate 8 0 }

-- thread j is i itself, or its count of o is 0
abbrev pub free_of : List ℕ → ℕ → ℕ → ℕ → Bool
free_of counts i o j = eqb j i || eqb (count_of counts j o) 0

-- no other thread's count of o is above 0
unfoldable pub others_free : List ℕ → ℕ → ℕ → Bool
others_free counts i o = all_below 8 (free_of counts i o)

abbrev pub is_free : List ℕ → ℕ → ℕ → Bool
is_free counts i o = eqb (count_of counts i o) 0

-- thread i's count is 0 for every object
unfoldable pub holds_nothing : List ℕ → ℕ → Bool
holds_nothing counts i = all_below 32 (is_free counts i)

abbrev pub not_live : State → ℕ → Bool
not_live s i = not (thread_at s i).live

-- the lowest thread number that is free, 8 where there is none
unfoldable pub lowest_free : State → ℕ
lowest_free s = first_below 8 (not_live s)
