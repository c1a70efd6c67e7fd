-- What the writes of a step make of the state that the arrays are.
use mathlib.Core.List.{List}
use mathlib.Core.Path.{◌≡◌, ap, ◌∙◌}
use mathlib.Core.Logic.{◌≢◌}
use mathlib.Core.Bool.{Bool, true, false, cond, not, ◌&&◌}
use Prim.Native.Nat.{ℕ, ◌+◌, ◌*◌, ◌<◌}
use lib.Dec.{ltb, eqb}
use lib.ListN.{length, set, length-set}
use lib.Seq.{get_or-set_same, get_or-set_other}
use native.Mathlib.Omega.{arith}
use native.Mathlib.Decide.{ℕ_discrete}
use borrow.Author.Tests.{lt-ltb}
use Rattle.bundle.specs.Program.{Method, method_at}
use Rattle.values.specs.declared.Slot.{Slot}
use Rattle.values.specs.Values.{zero_slot, null_slot}
use Rattle.threads.specs.declared.Thread.{Thread}
use Rattle.state.specs.declared.State.{State}
use Rattle.state.specs.State.{fields_with, with_object}
use Rattle.turns.specs.Moves.{first_field, first_fields}
use Rattle.memory.specs.Tab.{tab}
use Rattle.memory.specs.Words.{slot_of}
use Rattle.memory.specs.declared.Frame.{Frame}
use Rattle.memory.specs.Frames.{Sixteen, thread_in}
use Rattle.memory.proofs.Tab.{tab-set}
use Rattle.memory.proofs.Meaning.{word-zero, word-null}
use Rattle.memory.proofs.Writes.{slots-set}
use Rattle.runner.specs.Table.{first_word, row_of}
use Rattle.runner.specs.Memory.{no_frame, frame_of, thread_from, slot_from, Sized}
use Rattle.runner.specs.Objects.{fields_in}

-- ---- one frame is written
module _ (frames : List Frame) (i : ℕ) (p : Frame) (n : length frames ≡ 8) (l : i < 8) where
  pub frame-own : frame_of (set frames i p) i ≡ p
  frame-own = get_or-set_same frames i p no_frame (omega arith)

  pub frame-other : (j : ℕ) → j ≢ i → frame_of (set frames i p) j ≡ frame_of frames j
  frame-other j d = get_or-set_other frames i j p no_frame d

  pub threads-set : (u : Thread) → thread_in p ≡ u → tab 8 (thread_from (set frames i p)) ≡ set (tab 8 (thread_from frames)) i u
  threads-set u e =
      tab-set 8 (thread_from frames) (thread_from (set frames i p)) i u l (ap thread_in frame-own ∙ e) (λ j k d. ap thread_in (frame-other j d))

  pub sized_set : (fields : List ℕ) → Sized frames fields → Sixteen p → Sized (set frames i p) fields
  sized_set fields z e =
      record {
        frames_8 = length-set frames i p ∙ z.frames_8;
        frame_16 = λ j k. go j k (ℕ_discrete j i);
        fields_128 = z.fields_128;
      }
    where
      go : (j : ℕ) → j < 8 → Dec (j ≡ i) → Sixteen (frame_of (set frames i p) j)
      go j k (yes q) = rw (q, frame-own) e
      go j k (no q) = rw (frame-other j q) (z.frame_16 j k)

-- ---- one field place is written
pub fields-set : (fields : List ℕ) (k w : ℕ) → length fields ≡ 128 → k < 128 → tab 128 (slot_from (set fields k w)) ≡ set (tab 128 (slot_from fields)) k (slot_of w)
fields-set = slots-set 128

pub sized-field : (frames : List Frame) (fields : List ℕ) (k w : ℕ) → Sized frames fields → Sized frames (set fields k w)
sized-field frames fields k w z =
    record { frames_8 = z.frames_8; frame_16 = z.frame_16; fields_128 = length-set fields k w ∙ z.fields_128 }

-- ---- the fields of a new object
first-word : (m : Method) (j : ℕ) → slot_of (first_word m j) ≡ first_field m j
unfolding first_word
first-word m j = go (ltb j m.fields && not (eqb (m.field j) 255))
  where
    go : (t : Bool) → slot_of (cond t 4294967552 0) ≡ cond t null_slot zero_slot
    go true = word-null 4294967552 (omega arith)
    go false = word-zero

module _ (b : List ℕ) (c o : ℕ) (fields : List ℕ) (n : length fields ≡ 128) (l : o < 32) where
  abbrev f₀ : List ℕ
  f₀ = set fields (o * 4) (first_word (method_at b c) 0)

  abbrev f₁ : List ℕ
  f₁ = set (set fields (o * 4) (first_word (method_at b c) 0)) (o * 4 + 1) (first_word (method_at b c) 1)

  abbrev f₂ : List ℕ
  f₂ = set (set (set fields (o * 4) (first_word (method_at b c) 0)) (o * 4 + 1) (first_word (method_at b c) 1)) (o * 4 + 2) (first_word (method_at b c) 2)

  n₀ : length f₀ ≡ 128
  n₀ = length-set fields (o * 4) (first_word (method_at b c) 0) ∙ n

  n₁ : length f₁ ≡ 128
  n₁ = length-set f₀ (o * 4 + 1) (first_word (method_at b c) 1) ∙ n₀

  n₂ : length f₂ ≡ 128
  n₂ = length-set f₁ (o * 4 + 2) (first_word (method_at b c) 2) ∙ n₁

  pub fields_made : tab 128 (slot_from (fields_in fields o (row_of b c).first)) ≡ fields_with (tab 128 (slot_from fields)) o (first_fields (method_at b c))
  unfolding fields_with
  fields_made =
      rw (
        fields-set f₂ (o * 4 + 3) (first_word (method_at b c) 3) n₂ (omega arith),
        fields-set f₁ (o * 4 + 2) (first_word (method_at b c) 2) n₁ (omega arith),
        fields-set f₀ (o * 4 + 1) (first_word (method_at b c) 1) n₀ (omega arith),
        fields-set fields (o * 4) (first_word (method_at b c) 0) n (omega arith),
        first-word (method_at b c) 0,
        first-word (method_at b c) 1,
        first-word (method_at b c) 2,
        first-word (method_at b c) 3,
      )

  pub sized-made : (frames : List Frame) → Sized frames fields → Sized frames (fields_in fields o (row_of b c).first)
  sized-made frames z =
      sized-field frames f₂ _ _ (sized-field frames f₁ _ _ (sized-field frames f₀ _ _ (sized-field frames fields _ _ z)))

-- one object more
pub object-made : (s : State) (c : ℕ) (first : List Slot) → s.objects < 32
    → record {
      threads = s.threads;
      counts = s.counts;
      objects = s.objects + 1;
      classes = set s.classes s.objects c;
      fields = fields_with s.fields s.objects first;
      held = s.held;
    } ≡ with_object s c first
unfolding with_object
object-made s c first l = rw (lt-ltb s.objects 32 l)
