-- Documents 01 and 02, answer 18: when a state is one of a bundle.
use Rattle.std.specs.Prelude.{◌≡◌, Bool, cond, ◌&&◌, ◌||◌, not, List, ℕ, ◌<◌, ltb, leb, eqb, get_or}
use Rattle.ground.specs.Bounded.{all_below, count_below}
use Rattle.bundle.specs.Program.{Program}
use Rattle.held.specs.Word.{bit}
use Rattle.values.specs.Values.{zero_slot, refers}
use Rattle.values.specs.declared.Slot.{Slot}
use Rattle.threads.specs.declared.Thread.{Thread}
use Rattle.state.specs.declared.State.{State}
use Rattle.state.specs.State.{thread_at, count_of, word_of, field_of, is_free}

abbrev pub place_refers : ℕ → List Slot → ℕ → Bool
place_refers objects l i = refers objects (get_or l i zero_slot)

-- no reference to no object in the first n places
unfoldable pub places_refer : ℕ → List Slot → ℕ → Bool
places_refer objects l n = all_below n (place_refers objects l)

-- address and depth in range, and the references in use: variables below V, stack places within the depth
unfoldable pub placed_ok : ℕ → ℕ → ℕ → ℕ → Thread → Bool
placed_ok code limit vars objects t =
    leb 1 t.at.0
    && leb t.at.0 code
    && leb t.depth limit
    && places_refer objects t.vars vars
    && places_refer objects t.stack t.depth

-- a live thread's class in range, and its place in that class's method
unfoldable pub live_ok : Program → ℕ → Thread → Bool
live_ok P objects t =
    let m = P.method t.class in
    ltb t.class P.classes && placed_ok m.code m.limit m.vars objects t

-- a thread that isn't live may hold any class, address, depth and values
unfoldable pub thread_ok : Program → ℕ → Thread → Bool
thread_ok P objects t = not t.live || live_ok P objects t

abbrev pub thread_ok_at : Program → State → ℕ → Bool
thread_ok_at P s i = thread_ok P s.objects (thread_at s i)

unfoldable pub threads_ok : Program → State → Bool
threads_ok P s = all_below 8 (thread_ok_at P s)

abbrev pub object_ok : Program → List ℕ → ℕ → Bool
object_ok P classes o = ltb (get_or classes o 0) P.classes

-- there is an object 0, and it is of the exception class (document 02, Q-6)
unfoldable pub first_ok : Program → ℕ → List ℕ → Bool
first_ok P objects classes = leb 1 objects && eqb (get_or classes 0 0) P.exception

-- .. and no more than 32 objects, each of a class of the bundle
unfoldable pub objects_ok : Program → ℕ → List ℕ → Bool
objects_ok P objects classes = first_ok P objects classes && leb objects 32 && all_below objects (object_ok P classes)

-- field f of object o is no reference to no object
abbrev pub field_refers : ℕ → List Slot → ℕ → ℕ → Bool
field_refers objects fields o f = refers objects (field_of fields o f)

-- .. so of each field of its class
unfoldable pub fields_refer : Program → ℕ → List ℕ → List Slot → ℕ → Bool
fields_refer P objects classes fields o = all_below (P.method (get_or classes o 0)).fields (field_refers objects fields o)

-- .. and of each object (document 02, Q-8)
unfoldable pub fields_ok : Program → ℕ → List ℕ → List Slot → Bool
fields_ok P objects classes fields = all_below objects (fields_refer P objects classes fields)

-- a count is at most 2,047, and above 0 only on an object and at a live thread
unfoldable pub count_ok : ℕ → Bool → ℕ → ℕ → Bool
count_ok objects live o n = eqb n 0 || (leb n 2047 && ltb o objects && live)

abbrev pub count_ok_at : List ℕ → ℕ → Bool → ℕ → ℕ → Bool
count_ok_at counts objects live i o = count_ok objects live o (count_of counts i o)

unfoldable pub thread_counts_ok : List ℕ → ℕ → Bool → ℕ → Bool
thread_counts_ok counts objects live i = all_below 32 (count_ok_at counts objects live i)

abbrev pub thread_counts_ok_at : State → ℕ → Bool
thread_counts_ok_at s i = thread_counts_ok s.counts s.objects (thread_at s i).live i

unfoldable pub counts_ok : State → Bool
counts_ok s = all_below 8 (thread_counts_ok_at s)

-- bit o of the word w is set exactly when the count n is above zero
abbrev pub bit_agrees : ℕ → ℕ → ℕ → Bool
bit_agrees w o n = cond (ltb 0 n) (bit w o) (not (bit w o))

abbrev pub bit_agrees_at : List ℕ → ℕ → ℕ → ℕ → Bool
bit_agrees_at counts w i o = bit_agrees w o (count_of counts i o)

-- the word w agrees with thread i's counts, object by object (it is 32 bits long, so no bit is left)
unfoldable pub word_agrees : List ℕ → ℕ → ℕ → Bool
word_agrees counts w i = all_below 32 (bit_agrees_at counts w i)

-- thread i's counts and its word
abbrev pub thread_held_ok : List ℕ → ℕ → Bool → ℕ → ℕ → Bool
thread_held_ok counts objects live w i = thread_counts_ok counts objects live i && word_agrees counts w i

abbrev pub word_agrees_at : State → ℕ → Bool
word_agrees_at s i = word_agrees s.counts (word_of s.held i) i

-- 18 is now also given when the word and the counts disagree: at any of the eight threads, live or not (document 02, Q-4)
unfoldable pub words_agree : State → Bool
words_agree s = all_below 8 (word_agrees_at s)

-- .. which says: bit o of each thread's word is set exactly when its count for object o is above zero
abbrev pub Worded : State → Type 0
Worded s = (i o : ℕ) → i < 8 → o < 32 → bit (word_of s.held i) o ≡ ltb 0 (count_of s.counts i o)

abbrev pub holds_at : List ℕ → ℕ → ℕ → Bool
holds_at counts o i = not (is_free counts i o)

-- at most one thread holds object o
unfoldable pub sole_holder : List ℕ → ℕ → Bool
sole_holder counts o = leb (count_below 8 (holds_at counts o)) 1

-- so of each object (a count on no object is `count_ok`'s)
unfoldable pub sole_holders : List ℕ → ℕ → Bool
sole_holders counts objects = all_below objects (sole_holder counts)

-- the state is one of this bundle
unfoldable pub state_ok : Program → State → Bool
state_ok P s =
    objects_ok P s.objects s.classes
    && fields_ok P s.objects s.classes s.fields
    && threads_ok P s
    && counts_ok s
    && words_agree s
    && sole_holders s.counts s.objects

-- no clause of 18: what the code asks in place of `sole_holders`, once words and counts agree: no bit is set in two words
abbrev pub has_bit : List ℕ → ℕ → ℕ → Bool
has_bit held o i = bit (word_of held i) o

abbrev pub bit_alone : List ℕ → ℕ → Bool
bit_alone held o = leb (count_below 8 (has_bit held o)) 1

unfoldable pub bits_apart : List ℕ → Bool
bits_apart held = all_below 32 (bit_alone held)
