-- What is written is read back: of every state, the bytes are a state in the format of `hveitmar_trace`, and that one.
use Rattle.std.specs.Prelude.{◌≡◌, true, List, ℕ, ◌<◌, pos, negsuc, length, get_or}
use Rattle.ground.specs.Bytes.{at}
use Rattle.values.specs.declared.Value.{Value}
use Rattle.values.specs.declared.Value.TheVariants.{Int, Ref, Null}
use Rattle.values.specs.declared.Slot.{Slot}
use Rattle.values.specs.Values.{zero_slot}
use Rattle.threads.specs.declared.Thread.{Thread}
use Rattle.threads.specs.Threads.{idle}
use Rattle.state.specs.declared.State.{State}
use Rattle.state_bytes.specs.Format.{is_state, state_of}
use Rattle.state_written.specs.Written.{state_bytes}

-- what the types of the code say of a value: an integer has 32 bits, a reference eight
abbrev pub ValueFits : Value → Type 0
ValueFits (Int (pos n)) = n < 2147483648
ValueFits (Int (negsuc n)) = n < 2147483648
ValueFits (Ref o) = o < 256
ValueFits Null = Unit

-- n places
pub record PlacesFit (n : ℕ) (l : List Slot) : Type 0 where
  pub long : length l ≡ n
  pub fits : (i : ℕ) → i < n → ValueFits (get_or l i zero_slot).value

-- n numbers below m
pub record NumbersFit (n m : ℕ) (l : List ℕ) : Type 0 where
  pub long : length l ≡ n
  pub fits : (i : ℕ) → i < n → at l i < m

-- .. of a thread
pub record ThreadFits (t : Thread) : Type 0 where
  pub class_8 : t.class < 256
  pub address_16 : t.at.0 < 65536
  pub depth_8 : t.depth < 256
  pub vars : PlacesFit 16 t.vars
  pub stack : PlacesFit 16 t.stack

-- .. and of a state
pub record StateFits (s : State) : Type 0 where
  pub threads_8 : length s.threads ≡ 8
  pub threads : (i : ℕ) → i < 8 → ThreadFits (get_or s.threads i idle)
  pub counts : NumbersFit 256 65536 s.counts
  pub objects_8 : s.objects < 256
  pub classes : NumbersFit 32 256 s.classes
  pub fields : PlacesFit 128 s.fields
  pub held : NumbersFit 8 4294967296 s.held

-- for every state, `state_bytes` takes what is written and reads that state
abbrev pub ReadsBack : Type 0
ReadsBack = (s : State) → StateFits s → (is_state (state_bytes s) ≡ true) × (state_of (state_bytes s) ≡ s)
