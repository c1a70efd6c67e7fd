-- What an event says by itself: most start nothing and count for nothing.
use mathlib.Core.Path.{◌≡◌, refl}
use mathlib.Core.Logic.{◌⊎◌, inl, inr}
use mathlib.Core.Bool.{Bool, true, false, ◌||◌}
use Prim.Native.Nat.{ℕ}
use lib.Dec.{eqb}
use Rattle.ground.proofs.Bools.{and-false, or-false-fst, or-false-snd, never}
use Rattle.instructions.specs.declared.Code.{Code}
use Rattle.values.specs.declared.Value.{Value}
use Rattle.values.specs.declared.Value.TheVariants.{Int, Ref, Null}
use Rattle.values.specs.declared.Slot.{Slot}
use Rattle.values.specs.Values.{is_ref_value, is_ref, is_null_value, is_null, object_of_value, object_of}
use Rattle.threads.specs.declared.Thread.{Thread}
use Rattle.threads.specs.Threads.{var_of}
use Rattle.history.specs.Met.{None, One}
use Rattle.history.specs.Event.{Event}
use Rattle.history.specs.Reading.{starts, ends, enters, exits}
use Rattle.history.specs.Meeting.{object_in, object_met, meeting}
use Rattle.history.specs.History.{event}

-- it starts no thread, and counts for no object
pub record Quiet (e : Event) : Type 0 where
  pub no_start : starts e ≡ false
  pub no_enter : (o : ℕ) → enters o e ≡ false
  pub no_exit : (o : ℕ) → exits o e ≡ false

pub not-zero : (e : Event) → eqb e.answer 0 ≡ false → Quiet e
unfolding starts enters exits
not-zero e z = record { no_start = rw z; no_enter = λ o. rw z; no_exit = λ o. rw z }

-- the opcode is a monitorenter's, a monitorexit's or a start's
abbrev pub speaks : ℕ → Bool
speaks n = eqb n 7 || eqb n 8 || eqb n 10

pub other : (e : Event) (n : ℕ) → e.met.instruction.opcode ≡ n → speaks n ≡ false → Quiet e
unfolding starts enters exits
other e n w p =
    let q = or-false-fst (eqb n 7 || eqb n 8) _ p in
    record {
      no_start = rw (w, or-false-snd (eqb n 7 || eqb n 8) _ p) (and-false (eqb e.answer 0));
      no_enter = λ o. rw (w, or-false-fst (eqb n 7) _ q, and-false (eqb e.answer 0));
      no_exit = λ o. rw (w, or-false-snd (eqb n 7) _ q, and-false (eqb e.answer 0));
    }

pub no_end : (e : Event) → eqb e.answer 1 ≡ false → eqb e.answer 2 ≡ false → ends e ≡ false
unfolding ends
no_end e p q = rw (p, q)

pub some_end : (e : Event) → (e.answer ≡ 1) ⊎ (e.answer ≡ 2) → ends e ≡ true
unfolding ends
some_end e (inl q) = rw q
some_end e (inr q) = rw q

-- ---- the object that a value names
object-in : (x : Slot) → is_ref x ≡ true → object_in x.value ≡ One (object_of x)
object-in x f = go x.value f
  where
    go : (v : Value) → is_ref_value v ≡ true → object_in v ≡ One (object_of_value v)
    go (Int z) f = never f refl
    go (Ref o) f = refl
    go Null f = never f refl

null-in : (x : Slot) → is_null x ≡ true → object_in x.value ≡ None
null-in x f = go x.value f
  where
    go : (v : Value) → is_null_value v ≡ true → object_in v ≡ None
    go (Int z) f = never f refl
    go (Ref o) f = never f refl
    go Null f = refl

-- ---- a monitorenter, a monitorexit and a start that answered 0
module _ (i : ℕ) (t : Thread) (y : Code) where
  -- on null it counts for no object
  pub null-quiet : y.opcode ≡ 7 → is_null (var_of t y.operand) ≡ true → Quiet (event i (meeting t y) 0)
  unfolding starts enters exits object_met
  null-quiet w f =
      record {
        no_start = rw w;
        no_enter = λ o. rw (w, null-in (var_of t y.operand) f);
        no_exit = λ o. rw w;
      }

  pub enter-says : y.opcode ≡ 7 → is_ref (var_of t y.operand) ≡ true → (o : ℕ)
      → (starts (event i (meeting t y) 0) ≡ false)
      × (enters o (event i (meeting t y) 0) ≡ eqb (object_of (var_of t y.operand)) o)
      × (exits o (event i (meeting t y) 0) ≡ false)
  unfolding starts enters exits object_met
  enter-says w f o = (rw w, rw (w, object-in (var_of t y.operand) f), rw w)

  pub exit-says : y.opcode ≡ 8 → is_ref (var_of t y.operand) ≡ true → (o : ℕ)
      → (starts (event i (meeting t y) 0) ≡ false)
      × (enters o (event i (meeting t y) 0) ≡ false)
      × (exits o (event i (meeting t y) 0) ≡ eqb (object_of (var_of t y.operand)) o)
  unfolding starts enters exits object_met
  exit-says w f o = (rw w, rw w, rw (w, object-in (var_of t y.operand) f))

  pub start-says : y.opcode ≡ 10
      → (starts (event i (meeting t y) 0) ≡ true)
      × ((o : ℕ) → enters o (event i (meeting t y) 0) ≡ false)
      × ((o : ℕ) → exits o (event i (meeting t y) 0) ≡ false)
  unfolding starts enters exits
  start-says w = (rw w, λ o. rw w, λ o. rw w)
