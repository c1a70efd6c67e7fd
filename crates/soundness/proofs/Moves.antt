-- A step moves one thread: the invariant of all the others, the changes of a state that keep it, and what a good step is.
use Prim.Native.Nat.{ℕ, ◌+◌, ◌*◌, ◌≤◌, ◌<◌}
use mathlib.Core.Path.{◌≡◌, refl, ◌∙◌}
use mathlib.Core.Logic.{◌≢◌, ◌⊎◌, inl, inr}
use mathlib.Core.Bool.{Bool, true, false, cond}
use mathlib.Core.List.{List}
use native.Mathlib.Omega.{arith}
use native.Mathlib.Decide.{ℕ_discrete, dec_lt}
use lib.ListN.{get_or, set, length-set}
use lib.Seq.{get_or-set_same, get_or-set_other}
use borrow.Author.Tests.{lt-ltb}
use Rattle.ground.proofs.Bools.{never}
use Rattle.entries.specs.Entries.{field_entry}
use Rattle.rows.specs.Typed.{Typed}
use Rattle.values.specs.declared.Slot.{Slot}
use Rattle.threads.specs.declared.Thread.{Thread}
use Rattle.threads.specs.Threads.{idle}
use Rattle.state.specs.declared.State.{State}
use Rattle.state.specs.State.{thread_at, count_of, class_of, field_of, with_thread, with_count, with_field, fields_with, with_object}
use Rattle.turns.specs.Stepped.{Stepped}
use Rattle.turns.specs.Answers.{refused}
use Rattle.turns.specs.Moves.{first_fields}
use Rattle.machine.proofs.Changes.{Sized, counted-sized, words-written, grown}
use Rattle.soundness.specs.Balance.{Matches, value_of}
use Rattle.soundness.specs.Invariant.{entry_at, Live, Asleep, Standing, Whole, StandingAt, Inv}
use Rattle.soundness.proofs.Kind.{more-kind}
use Rattle.soundness.proofs.FieldPlaces.{written, fields-length, fields-written, made-kind}
use Rattle.soundness.proofs.Accepted.{Accepted}
use Rattle.soundness.proofs.Balance.{balanced-more}

-- the invariant, but for thread i
pub record Others (P : Typed) (s : State) (i : ℕ) : Type 0 where
  pub whole : Whole P s
  pub thread : (j : ℕ) → j < 8 → j ≢ i → StandingAt P s j

module _ (P : Typed) where
  pub others : (s : State) → Inv P s → (i : ℕ) → Others P s i
  others s inv i = record { whole = inv.whole; thread = λ j l n. inv.thread j l }

  -- there may be more objects, and counts are told otherwise
  pub standing-more : (n : ℕ) (cls k : ℕ → ℕ) (n' : ℕ) (cls' k' : ℕ → ℕ) (t : Thread) → n ≤ n' → ((r : ℕ) → r < n → cls' r ≡ cls r)
      → ((o : ℕ) → o < 32 → k' o ≡ k o) → Standing P n cls k t → Standing P n' cls' k' t
  standing-more n cls k n' cls' k' t ln lc qk h =
      record {
        live = λ a. record {
          alive = a;
          address = (h.live a).address;
          stands = record {
            sized = (h.live a).stands.sized;
            depth_exact = (h.live a).stands.depth_exact;
            balanced = balanced-more n cls (entry_at P t.class t.at.0) (value_of t) k (h.live a).stands.balanced n' cls' k' ln lc qk;
          };
        };
        asleep = λ a. record { sized = (h.asleep a).sized; free = λ o l. qk o l ∙ (h.asleep a).free o l };
      }

  pub live-standing : (n : ℕ) (cls k : ℕ → ℕ) (t : Thread) → Live P n cls k t → Standing P n cls k t
  live-standing n cls k t h = record { live = λ _. h; asleep = λ b. never h.alive b }

  pub asleep-standing : (n : ℕ) (cls k : ℕ → ℕ) (t : Thread) → t.live ≡ false → Asleep k t → Standing P n cls k t
  asleep-standing n cls k t a h = record { live = λ b. never b a; asleep = λ _. h }

  module _ (s : State) (i : ℕ) (li : i < 8) (h : Others P s i) where
    -- thread i becomes u
    pub thread-moves : (u : Thread) → Standing P s.objects (class_of s) (count_of s.counts i) u → Inv P (with_thread s i u)
    thread-moves u st =
        record {
          whole = record {
            threads_8 = length-set s.threads i u ∙ h.whole.threads_8;
            counts_256 = h.whole.counts_256;
            classes_32 = h.whole.classes_32;
            fields_128 = h.whole.fields_128;
            held_8 = h.whole.held_8;
            objects_32 = h.whole.objects_32;
            some_object = h.whole.some_object;
            first_class = h.whole.first_class;
            object_class = h.whole.object_class;
            one_holder = h.whole.one_holder;
            worded = h.whole.worded;
            field_holds = h.whole.field_holds;
          };
          thread = λ j l. go j l (ℕ_discrete j i);
        }
      where
        go : (j : ℕ) → j < 8 → Dec (j ≡ i) → Standing P s.objects (class_of s) (count_of s.counts j) (get_or (set s.threads i u) j idle)
        go j l (yes q) = rw (q, get_or-set_same s.threads i u idle (omega (arith, h.whole.threads_8))) st
        go j l (no q) = rw (get_or-set_other s.threads i j u idle q) (h.thread j l q)

    -- another place of the counts
    pub count-other : (j o p n : ℕ) → o < 32 → p < 32 → (j ≡ i → p ≢ o) → count_of (set s.counts (i * 32 + o) n) j p ≡ count_of s.counts j p
    count-other j o p n lo lp f = get_or-set_other s.counts (i * 32 + o) (j * 32 + p) n 0 (λ q. f (omega arith) (omega arith))

    pub count_same : (o n : ℕ) → o < 32 → count_of (set s.counts (i * 32 + o) n) i o ≡ n
    count_same o n lo = get_or-set_same s.counts (i * 32 + o) n 0 (omega (arith, h.whole.counts_256))

    -- thread i's count of o becomes n
    pub count-moves : (o n : ℕ) → o < 32 → (0 < n → (j : ℕ) → j < 8 → j ≢ i → count_of s.counts j o ≡ 0) → Others P (with_count s i o n) i
    count-moves o n lo f =
        record {
          whole = record {
            threads_8 = h.whole.threads_8;
            counts_256 = (counted-sized s sized i o n).counts_256;
            classes_32 = h.whole.classes_32;
            fields_128 = h.whole.fields_128;
            held_8 = (counted-sized s sized i o n).held_8;
            objects_32 = h.whole.objects_32;
            some_object = h.whole.some_object;
            first_class = h.whole.first_class;
            object_class = h.whole.object_class;
            one_holder = λ j k p lj lk lp x z. sole j k p lj lk lp x z (ℕ_discrete p o) (ℕ_discrete j i) (ℕ_discrete k i);
            worded = words-written s h.whole.worded sized i o n li lo;
            field_holds = h.whole.field_holds;
          };
          thread = λ j l n'. standing-more s.objects (class_of s) (count_of s.counts j) s.objects (class_of s) _ (thread_at s j) (omega arith) (λ r _. refl)
              (λ p lp. count-other j o p n lo lp (λ q. absurd (n' q))) (h.thread j l n');
        }
      where
        sized : Sized s
        sized = record { counts_256 = h.whole.counts_256; held_8 = h.whole.held_8 }

        sole : (j k p : ℕ) → j < 8 → k < 8 → p < 32 → j ≢ k → 0 < count_of (set s.counts (i * 32 + o) n) j p → Dec (p ≡ o) → Dec (j ≡ i) → Dec (k ≡ i)
            → count_of (set s.counts (i * 32 + o) n) k p ≡ 0
        sole j k p lj lk lp x z (no d) e g =
            count-other k o p n lo lp (λ _. d) ∙ h.whole.one_holder j k p lj lk lp x (rw (count-other j o p n lo lp (λ _. d)) at z)
        sole j k p lj lk lp x z (yes d) (yes e) (yes g) = absurd (x (cc))
        sole j k p lj lk lp x z (yes d) (yes e) (no g) =
            count-other k o p n lo lp (λ q. absurd (g q)) ∙ (rw d (f (rw (e, d, count_same o n lo) at z) k lk g))
        sole j k p lj lk lp x z (yes d) (no e) (yes g) =
            let w : 0 < count_of s.counts j o = rw (d, count-other j o o n lo lo (λ q. absurd (e q))) at z in
            rw (g, d, count_same o n lo) (zero_of (dec_lt 0 n) (λ c. f c j lj e) w)
          where
            zero_of : Dec (0 < n) → (0 < n → count_of s.counts j o ≡ 0) → 0 < count_of s.counts j o → n ≡ 0
            zero_of (yes c) y w = absurd (omega (arith, y c))
            zero_of (no c) y w = omega arith
        sole j k p lj lk lp x z (yes d) (no e) (no g) =
            count-other k o p n lo lp (λ q. absurd (g q)) ∙ h.whole.one_holder j k p lj lk lp x (rw (count-other j o p n lo lp (λ q. absurd (e q))) at z)

    -- one object more, its fields as new writes them
    pub object-grows : Accepted P → (c : ℕ) → c < P.program.classes → s.objects < 32 → Others P (grown s c (first_fields (P.program.method c))) i
    object-grows A c lc lo =
        record {
          whole = record {
            threads_8 = h.whole.threads_8;
            counts_256 = h.whole.counts_256;
            classes_32 = length-set s.classes s.objects c ∙ h.whole.classes_32;
            fields_128 = fields-length s.fields s.objects first ∙ h.whole.fields_128;
            held_8 = h.whole.held_8;
            objects_32 = omega arith;
            some_object = omega arith;
            first_class = older 0 h.whole.some_object ∙ h.whole.first_class;
            object_class = λ o l. class o l (ℕ_discrete o s.objects);
            one_holder = h.whole.one_holder;
            worded = h.whole.worded;
            field_holds = field;
          };
          thread = λ j l n. standing-more s.objects (class_of s) (count_of s.counts j) (s.objects + 1) (class_of (grown s c first)) (count_of s.counts j) (thread_at s j) (omega arith)
              older (λ o _. refl) (h.thread j l n);
        }
      where
        first : List Slot
        first = first_fields (P.program.method c)

        older : (o : ℕ) → o < s.objects → class_of (grown s c first) o ≡ class_of s o
        older o l = get_or-set_other s.classes s.objects o c 0 (omega arith)

        newest : class_of (grown s c first) s.objects ≡ c
        newest = get_or-set_same s.classes s.objects c 0 (omega (arith, h.whole.classes_32))

        class : (o : ℕ) → o < s.objects + 1 → Dec (o ≡ s.objects) → class_of (grown s c first) o < P.program.classes
        class o l (yes q) = rw (q, newest) lc
        class o l (no q) = rw (older o (omega arith)) (h.whole.object_class o (omega arith))

        few : (o f : ℕ) → o < s.objects + 1 → f < (P.program.method (class_of (grown s c first) o)).fields → f < 4
        few o f l k = omega (arith, A.formed.fields_4 (class_of (grown s c first) o) (class o l (ℕ_discrete o s.objects)))

        field : (o f : ℕ) → o < s.objects + 1 → f < (P.program.method (class_of (grown s c first) o)).fields
            → Matches (s.objects + 1) (class_of (grown s c first)) (field_entry ((P.program.method (class_of (grown s c first) o)).field f)) (field_of (fields_with s.fields s.objects first) o f).value
        field o f l k =
            fields-written s.fields s.objects first
            (λ (x : Slot). Matches (s.objects + 1) (class_of (grown s c first)) (field_entry ((P.program.method (class_of (grown s c first) o)).field f)) x.value)
            o f (omega (arith, h.whole.fields_128)) (few o f l k)
            (λ q. rw (q, newest) (made-kind (s.objects + 1) (class_of (grown s c first)) (P.program.method c) f (A.formed.fields_4 c lc) (rw (q, newest) at k)))
            (λ q. let lo : o < s.objects = omega arith in rw (older o lo)
            (more-kind s.objects (class_of s) (s.objects + 1) (class_of (grown s c first)) (omega arith) older
            (field_entry ((P.program.method (class_of s o)).field f)) (field_of s.fields o f).value (h.whole.field_holds o f lo (rw (older o lo) at k))))

    -- field f of object o becomes x
    pub field-moves : Accepted P → (o f : ℕ) (x : Slot) → o < s.objects → f < (P.program.method (class_of s o)).fields
        → Matches s.objects (class_of s) (field_entry ((P.program.method (class_of s o)).field f)) x.value → Others P (with_field s o f x) i
    field-moves A o f x lo lf m =
        record {
          whole = record {
            threads_8 = h.whole.threads_8;
            counts_256 = h.whole.counts_256;
            classes_32 = h.whole.classes_32;
            fields_128 = length-set s.fields (o * 4 + f) x ∙ h.whole.fields_128;
            held_8 = h.whole.held_8;
            objects_32 = h.whole.objects_32;
            some_object = h.whole.some_object;
            first_class = h.whole.first_class;
            object_class = h.whole.object_class;
            one_holder = h.whole.one_holder;
            worded = h.whole.worded;
            field_holds = field;
          };
          thread = h.thread;
        }
      where
        few : (p g : ℕ) → p < s.objects → g < (P.program.method (class_of s p)).fields → g < 4
        few p g lp lg = omega (arith, A.formed.fields_4 (class_of s p) (h.whole.object_class p lp))

        field : (p g : ℕ) → p < s.objects → g < (P.program.method (class_of s p)).fields
            → Matches s.objects (class_of s) (field_entry ((P.program.method (class_of s p)).field g)) (field_of (set s.fields (o * 4 + f) x) p g).value
        field p g lp lg =
            written (λ (y : Slot). Matches s.objects (class_of s) (field_entry ((P.program.method (class_of s p)).field g)) y.value)
            s.fields (o * 4 + f) (p * 4 + g) x (omega (arith, few o f lo lf, h.whole.objects_32, h.whole.fields_128))
            (λ q. let e : p ≡ o = omega (arith, few o f lo lf, few p g lp lg) in let d : g ≡ f = omega arith in rw (e, d) m)
            (λ _. h.whole.field_holds p g lp lg)

pub grown-is : (s : State) (c : ℕ) (first : List Slot) → s.objects < 32 → with_object s c first ≡ grown s c first
unfolding with_object
grown-is s c first l = rw (lt-ltb s.objects 32 l)

-- ---- a good step of thread i from s: no fault, the invariant after it, and nothing held by a thread that ends
pub record Good (P : Typed) (s : State) (i : ℕ) (r : Stepped) : Type 0 where
  pub quiet : r.answer ≤ 5
  pub inv : Inv P r.state
  pub ends : (r.answer ≡ 1) ⊎ (r.answer ≡ 2) → (o : ℕ) → o < 32 → (count_of s.counts i o ≡ 0) × (count_of r.state.counts i o ≡ 0)

module _ (P : Typed) (s : State) (i : ℕ) where
  -- the thread goes on, or waits, or cannot start another: no thread ends
  goes : (n : ℕ) (u : State) → n ≤ 5 → n ≢ 1 → n ≢ 2 → Inv P u → Good P s i (record { answer = n; state = u })
  goes n u l a b h = record { quiet = l; inv = h; ends = none }
    where
      none : (n ≡ 1) ⊎ (n ≡ 2) → (o : ℕ) → o < 32 → (count_of s.counts i o ≡ 0) × (count_of u.counts i o ≡ 0)
      none (inl q) = absurd (a q)
      none (inr q) = absurd (b q)

  pub went : (u : State) → Inv P u → Good P s i (record { answer = 0; state = u })
  went u h = goes 0 u (omega arith) (omega arith) (omega arith) h

  pub given : (n : ℕ) → 3 ≤ n → n ≤ 5 → Inv P s → Good P s i (refused n s)
  given n l k h = goes n s k (omega arith) (omega arith) h

  -- the thread goes on as u, and nothing else changes
  pub went-as : (u : Thread) → i < 8 → Inv P s → Live P s.objects (class_of s) (count_of s.counts i) u
      → Good P s i (record { answer = 0; state = with_thread s i u })
  went-as u li inv h =
      went (with_thread s i u)
      (thread-moves P s i li (others P s inv i) u (live-standing P s.objects (class_of s) (count_of s.counts i) u h))

-- ---- an instruction of thread i under its rule: it draws no fault, and where it doesn't wait, its move is a good step
pub record Fine (P : Typed) (s : State) (i fault wait : ℕ) (move : Stepped) : Type 0 where
  pub no_fault : fault ≡ 0
  pub good : wait ≡ 0 → Good P s i move

-- .. by cases, each of which may wait
pub branches : (P : Typed) (s : State) (i : ℕ) (b : Bool) (f g : ℕ) (w : Bool → ℕ) (x y : Stepped)
    → (b ≡ true → Fine P s i f (w true) x) → (b ≡ false → Fine P s i g (w false) y) → Fine P s i (cond b f g) (w b) (cond b x y)
branches P s i true f g w x y p q = p refl
branches P s i false f g w x y p q = q refl
