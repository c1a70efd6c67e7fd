-- A state as bytes, in the format of `hveitmar_trace`: eight threads of 165 bytes, 256 counts of two, the number of objects, 32 class numbers, 128 field places of five bytes and eight held words of four: 2,537 bytes. Numbers are big-endian.
use Rattle.std.specs.Prelude.{cond, List, [], ◌∷◌, ◌++◌, ℕ, suc, ◌/◌, ◌%◌, get_or, set}
use Rattle.ground.specs.Bytes.{at}
use Rattle.ground.specs.Lists.{each}
use Rattle.values.specs.declared.Value.{Value}
use Rattle.values.specs.declared.Value.TheVariants.{Int, Ref, Null}
use Rattle.values.specs.declared.Slot.{Slot}
use Rattle.values.specs.Values.{zero_slot, bits_of}
use Rattle.threads.specs.declared.Thread.{Thread}
use Rattle.threads.specs.Threads.{idle}
use Rattle.state.specs.declared.State.{State}

-- two bytes, and four
abbrev pub halves : ℕ → List ℕ
halves n = n / 256 % 256 ∷ n % 256 ∷ []

abbrev pub quad_bytes : ℕ → List ℕ
quad_bytes n = n / 16777216 % 256 ∷ n / 65536 % 256 ∷ n / 256 % 256 ∷ n % 256 ∷ []

-- a place is a kind byte (0 integer, 1 reference, 2 null) and four bytes: of a reference the low one, of null 0
abbrev pub kind_of_value : Value → ℕ
kind_of_value (Int z) = 0
kind_of_value (Ref o) = 1
kind_of_value Null = 2

abbrev pub kind_of : Slot → ℕ
kind_of x = kind_of_value x.value

abbrev pub number_in_value : Value → ℕ
number_in_value (Int z) = bits_of z
number_in_value (Ref o) = o
number_in_value Null = 0

abbrev pub number_in : Slot → ℕ
number_in x = number_in_value x.value

abbrev pub place_bytes : Slot → List ℕ
place_bytes x = kind_of x ∷ quad_bytes (number_in x)

abbrev pub place_bytes_at : List Slot → ℕ → List ℕ
place_bytes_at l i = place_bytes (get_or l i zero_slot)

-- a thread is live (0 or 1), class, address (2), depth, sixteen variables, sixteen stack places from the bottom
unfoldable pub thread_bytes : Thread → List ℕ
thread_bytes t =
    (cond t.live 1 0 ∷ t.class ∷ t.at.0 / 256 % 256 ∷ t.at.0 % 256 ∷ t.depth ∷ [])
    ++ each 16 (place_bytes_at t.vars) ++ each 16 (place_bytes_at t.stack)

abbrev pub thread_bytes_at : List Thread → ℕ → List ℕ
thread_bytes_at l i = thread_bytes (get_or l i idle)

-- thread × 32 + object
abbrev pub count_bytes_at : List ℕ → ℕ → List ℕ
count_bytes_at l i = halves (at l i)

abbrev pub class_bytes_at : List ℕ → ℕ → List ℕ
class_bytes_at l i = at l i ∷ []

abbrev pub word_bytes_at : List ℕ → ℕ → List ℕ
word_bytes_at l i = quad_bytes (at l i)

-- field places stand object by object, four each
unfoldable pub state_bytes : State → List ℕ
state_bytes s =
    each 8 (thread_bytes_at s.threads)
    ++ each 256 (count_bytes_at s.counts)
    ++ (s.objects ∷ [])
    ++ each 32 (class_bytes_at s.classes)
    ++ each 128 (place_bytes_at s.fields)
    ++ each 8 (word_bytes_at s.held)

-- g with the bytes l from place p on
unfoldable pub written : ℕ → List ℕ → List ℕ → List ℕ
written p [] g = g
written p (x ∷ l) g = written (suc p) l (set g p x)
