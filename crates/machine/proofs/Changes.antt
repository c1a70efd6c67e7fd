-- The changes that a step makes to a state keep it one of the bundle: a thread, a count, a field, one object more.
use mathlib.Core.Path.{◌≡◌, refl, sym, ◌∙◌}
use mathlib.Core.Logic.{◌≢◌}
use mathlib.Core.Bool.{Bool, true, false, cond, not, ◌&&◌}
use mathlib.Core.List.{List}
use Prim.Native.Nat.{ℕ, zero, suc, ◌+◌, ◌*◌, ◌≤◌, ◌<◌}
use native.Mathlib.Omega.{arith}
use native.Mathlib.Decide.{ℕ_discrete}
use lib.ListN.{get_or, length, set, length-set}
use lib.Dec.{ltb, eqb}
use lib.Seq.{get_or-set_same, get_or-set_other}
use Rattle.held.specs.Word.{bit, marked}
use Rattle.held.proofs.Word.{marked-same, marked_other}
use Rattle.bundle.specs.Program.{Method, Program}
use Rattle.values.specs.declared.Slot.{Slot}
use Rattle.values.specs.Values.{zero_slot, null_slot, refers}
use Rattle.threads.specs.declared.Thread.{Thread}
use Rattle.threads.specs.Threads.{idle}
use Rattle.state.specs.declared.State.{State}
use Rattle.state.specs.State.{thread_at, count_of, word_of, with_thread, with_count, field_of, with_field, fields_with}
use Rattle.belongs.specs.Belongs.{Worded}
use Rattle.belongs.proofs.Belongs.{Placed, Counted, Belongs}
use Rattle.turns.specs.Moves.{first_field, first_fields}
use Rattle.machine.proofs.Writes.{write-or, write-in, fields_in}
use Rattle.machine.proofs.Moved.{refers-more, placed-more}

-- one object more, of class c, where there is room, whose fields hold `first`
abbrev pub grown : State → ℕ → List Slot → State
grown s c first =
    record {
      threads = s.threads;
      counts = s.counts;
      objects = s.objects + 1;
      classes = set s.classes s.objects c;
      fields = fields_with s.fields s.objects first;
      held = s.held;
    }

-- what field place f of a new object holds
pub first-at : (m : Method) (f : ℕ) → f < 4 → get_or (first_fields m) f zero_slot ≡ first_field m f
first-at m zero l = refl
first-at m (suc zero) l = refl
first-at m (suc (suc zero)) l = refl
first-at m (suc (suc (suc zero))) l = refl
first-at m (suc (suc (suc (suc f)))) l = absurd (omega arith)

-- null and integer 0 are no reference to no object
pub first-refers : (m : Method) (objects f : ℕ) → f < 4 → refers objects (get_or (first_fields m) f zero_slot) ≡ true
first-refers m objects f l = rw (first-at m f l) (go (ltb f m.fields && not (eqb (m.field f) 255)))
  where
    go : (b : Bool) → refers objects (cond b null_slot zero_slot) ≡ true
    go true = refl
    go false = refl

-- there is a place for each count and a word for each thread, as the arrays have it
pub record Sized (s : State) : Type 0 where
  pub counts_256 : length s.counts ≡ 256
  pub held_8 : length s.held ≡ 8

pub counted-sized : (s : State) → Sized s → (i o n : ℕ) → Sized (with_count s i o n)
counted-sized s z i o n =
    record {
      counts_256 = length-set s.counts (i * 32 + o) n ∙ z.counts_256;
      held_8 = length-set s.held i (marked (word_of s.held i) o n) ∙ z.held_8;
    }

-- where a count is written, its bit goes with it
pub words-written : (s : State) → Worded s → Sized s → (i o n : ℕ) → i < 8 → o < 32 → Worded (with_count s i o n)
words-written s h z i o n l small j p e f = go (ℕ_discrete j i) (ℕ_discrete p o)
  where
    word : ℕ
    word = marked (word_of s.held i) o n

    unwritten : (j p : ℕ) → (j * 32 + p) ≢ (i * 32 + o) → count_of (set s.counts (i * 32 + o) n) j p ≡ count_of s.counts j p
    unwritten j p q = get_or-set_other s.counts (i * 32 + o) (j * 32 + p) n 0 q

    go : Dec (j ≡ i) → Dec (p ≡ o) → bit (word_of (set s.held i word) j) p ≡ ltb 0 (count_of (set s.counts (i * 32 + o) n) j p)
    go (yes q) (yes r) =
        rw (q, r, get_or-set_same s.held i word 0 (omega (arith, z.held_8)), get_or-set_same s.counts (i * 32 + o) n 0 (omega (arith, z.counts_256)))
        (marked-same (word_of s.held i) o n small)
    go (yes q) (no r) =
        rw (q, get_or-set_same s.held i word 0 (omega (arith, z.held_8)), unwritten i p (λ w. omega arith))
        (marked_other (word_of s.held i) o n p small f (λ w. r (sym w)) ∙ h i p l f)
    go (no q) r = rw (get_or-set_other s.held i j word 0 q, unwritten j p (λ w. omega arith)) (h j p e f)

module _ (P : Program) (s : State) (h : Belongs P s) where
  -- a thread that holds something stays live
  pub thread-belongs : (i : ℕ) (u : Thread) → (u.live ≡ true → Placed P s.objects u)
      → ((o : ℕ) → o < 32 → 0 < count_of s.counts i o → u.live ≡ true) → Belongs P (with_thread s i u)
  thread-belongs i u p c =
      record {
        live_placed = λ j l. write-or (λ (t : Thread). t.live ≡ true → Placed P s.objects t) s.threads i j u idle (h.live_placed j l) (λ q. p);
        some_object = h.some_object;
        first_class = h.first_class;
        objects_32 = h.objects_32;
        object_class = h.object_class;
        field_refers = h.field_refers;
        counted = λ j o l k. write-or (λ (t : Thread). Counted s.objects t.live o (count_of s.counts j o)) s.threads i j u idle (h.counted j o l k) (λ q. at j o k q (h.counted j o l k));
        one_holder = h.one_holder;
        worded = h.worded;
      }
    where
      at : (j o : ℕ) → o < 32 → j ≡ i → Counted s.objects (thread_at s j).live o (count_of s.counts j o)
          → Counted s.objects u.live o (count_of s.counts j o)
      at j o k q d = record { count_2047 = d.count_2047; on_object = d.on_object; by_live = λ n. c o k (rw q at n) }

  -- no other thread holds the object
  pub count-belongs : Sized s → (i o n : ℕ) → i < 8 → o < s.objects → (thread_at s i).live ≡ true → n ≤ 2047
      → ((j : ℕ) → j < 8 → 0 < count_of s.counts j o → j ≡ i) → Belongs P (with_count s i o n)
  count-belongs z i o n l b a m others =
      record {
        live_placed = h.live_placed;
        some_object = h.some_object;
        first_class = h.first_class;
        objects_32 = h.objects_32;
        object_class = h.object_class;
        field_refers = h.field_refers;
        counted = λ j p e f. write-or (λ (k : ℕ). Counted s.objects (thread_at s j).live p k) s.counts (i * 32 + o) (j * 32 + p) n 0 (h.counted j p e f) (λ q. at j p f q);
        one_holder = λ j k p e f g x y. sole j k p e f g x y (ℕ_discrete p o);
        worded = words-written s h.worded z i o n l small;
      }
    where
      small : o < 32
      small = omega (arith, h.objects_32)

      at : (j p : ℕ) → p < 32 → j * 32 + p ≡ i * 32 + o → Counted s.objects (thread_at s j).live p n
      at j p f q =
          let e : j ≡ i = omega (arith, small) in
          let g : p ≡ o = omega (arith, small) in
          record { count_2047 = m; on_object = λ k. omega arith; by_live = λ k. rw e a }

      unwritten : (j p : ℕ) → (j * 32 + p) ≢ (i * 32 + o) → count_of (set s.counts (i * 32 + o) n) j p ≡ count_of s.counts j p
      unwritten j p q = get_or-set_other s.counts (i * 32 + o) (j * 32 + p) n 0 q

      holder : (j p : ℕ) → j < 8 → p ≡ o → 0 < count_of (set s.counts (i * 32 + o) n) j p → j ≡ i
      holder j p e q x = go (ℕ_discrete j i)
        where
          go : Dec (j ≡ i) → j ≡ i
          go (yes r) = r
          go (no r) = others j e (rw (unwritten j p (λ w. omega (arith, small)), q) at x)

      sole : (j k p : ℕ) → j < 8 → k < 8 → p < 32 → 0 < count_of (set s.counts (i * 32 + o) n) j p
          → 0 < count_of (set s.counts (i * 32 + o) n) k p → Dec (p ≡ o) → j ≡ k
      sole j k p e f g x y (yes q) = holder j p e q x ∙ sym (holder k p f q y)
      sole j k p e f g x y (no q) =
          h.one_holder j k p e f g (rw (unwritten j p (λ w. omega (arith, small))) at x) (rw (unwritten k p (λ w. omega (arith, small))) at y)

  -- what a field comes to hold refers to an object
  pub field-belongs : (o f : ℕ) (x : Slot) → refers s.objects x ≡ true → Belongs P (with_field s o f x)
  field-belongs o f x e =
      record {
        live_placed = h.live_placed;
        some_object = h.some_object;
        first_class = h.first_class;
        objects_32 = h.objects_32;
        object_class = h.object_class;
        field_refers = λ p g l k. write-or (λ (y : Slot). refers s.objects y ≡ true) s.fields (o * 4 + f) (p * 4 + g) x zero_slot (h.field_refers p g l k) (λ q. e);
        counted = h.counted;
        one_holder = h.one_holder;
        worded = h.worded;
      }

  -- the new object's fields refer, and no class has more than four
  pub object-belongs : (c : ℕ) (first : List Slot) → c < P.classes → s.objects < 32 → ((d : ℕ) → d < P.classes → (P.method d).fields ≤ 4)
      → ((f : ℕ) → f < 4 → refers (s.objects + 1) (get_or first f zero_slot) ≡ true) → Belongs P (grown s c first)
  object-belongs c first b l few new =
      record {
        live_placed = λ i e a. placed-more P s.objects (thread_at s i) (h.live_placed i e a);
        some_object = omega arith;
        first_class = get_or-set_other s.classes s.objects 0 c 0 (λ q. omega (arith, h.some_object)) ∙ h.first_class;
        objects_32 = omega arith;
        object_class = known;
        field_refers = λ o f e k. let small : f < 4 = omega (arith, few _ (known o e)) in fields_in (λ (y : Slot). refers (s.objects + 1) y ≡ true) s.fields first s.objects o f small refl (λ q. new f small) (λ q. refers-more s.objects (field_of s.fields o f) (h.field_refers o f (omega arith) (rw (get_or-set_other s.classes s.objects o c 0 q) at k)));
        counted = λ i o e f. more i o (h.counted i o e f);
        one_holder = h.one_holder;
        worded = h.worded;
      }
    where
      known : (o : ℕ) → o < s.objects + 1 → get_or (set s.classes s.objects c) o 0 < P.classes
      known o e = write-in (λ (k : ℕ). k < P.classes) s.classes s.objects o c 0 (omega arith) (λ q. b) (λ q. h.object_class o (omega arith))

      more : (i o : ℕ) → Counted s.objects (thread_at s i).live o (count_of s.counts i o)
          → Counted (s.objects + 1) (thread_at s i).live o (count_of s.counts i o)
      more i o d = record { count_2047 = d.count_2047; on_object = λ n. omega (arith, d.on_object n); by_live = d.by_live }
