-- The invariant of the whole machine, which every step of an accepted bundle keeps: `Inv`. P is the typed program.
use Rattle.std.specs.Prelude.{ℕ, ◌≤◌, ◌<◌, ◌≡◌, ◌≢◌, true, false, length}
use Rattle.bundle.specs.Program.{Address}
use Rattle.entries.specs.Entries.{Entry, field_entry}
use Rattle.rows.specs.Typed.{Typed}
use Rattle.threads.specs.declared.Thread.{Thread}
use Rattle.state.specs.declared.State.{State}
use Rattle.state.specs.State.{thread_at, count_of, class_of, field_of}
use Rattle.belongs.specs.Belongs.{Worded}
use Rattle.soundness.specs.Balance.{Matches, slot_of, Sixteen, Stands}

-- the entry of slot s at the address l of class c
abbrev pub entry_at : Typed → ℕ → ℕ → ℕ → Entry
entry_at P c l s = slot_of (P.program.method c).vars (P.row c l) s

-- a live thread, with the counts k, among n objects of the classes cls: its depth is its row's, and its row's pairs are in balance with its counts
pub record Live (P : Typed) (n : ℕ) (cls k : ℕ → ℕ) (t : Thread) : Type 0 where
  pub alive : t.live ≡ true
  pub address : Address P.program t.class t.at.0
  pub stands : Stands (P.program.method t.class).vars n cls k (P.row t.class t.at.0) t

-- a thread that isn't live holds nothing
pub record Asleep (k : ℕ → ℕ) (t : Thread) : Type 0 where
  pub sized : Sixteen t
  pub free : (o : ℕ) → o < 32 → k o ≡ 0

pub record Standing (P : Typed) (n : ℕ) (cls k : ℕ → ℕ) (t : Thread) : Type 0 where
  pub live : t.live ≡ true → Live P n cls k t
  pub asleep : t.live ≡ false → Asleep k t

-- what does not go by thread
pub record Whole (P : Typed) (s : State) : Type 0 where
  pub threads_8 : length s.threads ≡ 8
  pub counts_256 : length s.counts ≡ 256
  pub classes_32 : length s.classes ≡ 32
  pub fields_128 : length s.fields ≡ 128
  pub held_8 : length s.held ≡ 8
  pub objects_32 : s.objects ≤ 32
  -- object 0 is there, of the exception class: what a failed new and null throw
  pub some_object : 1 ≤ s.objects
  pub first_class : class_of s 0 ≡ P.program.exception
  pub object_class : (o : ℕ) → o < s.objects → class_of s o < P.program.classes
  pub one_holder : (i j o : ℕ) → i < 8 → j < 8 → o < 32 → i ≢ j → 0 < count_of s.counts i o → count_of s.counts j o ≡ 0
  -- each thread's word agrees with its counts
  pub worded : Worded s
  -- every field in use holds what its descriptor allows; it weighs nothing
  pub field_holds : (o f : ℕ) → o < s.objects → f < (P.program.method (class_of s o)).fields
      → Matches s.objects (class_of s) (field_entry ((P.program.method (class_of s o)).field f)) (field_of s.fields o f).value

abbrev pub StandingAt : Typed → State → ℕ → Type 0
StandingAt P s i = Standing P s.objects (class_of s) (count_of s.counts i) (thread_at s i)

pub record Inv (P : Typed) (s : State) : Type 0 where
  pub whole : Whole P s
  pub thread : (i : ℕ) → i < 8 → StandingAt P s i
