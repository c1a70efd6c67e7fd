-- What `state_ok` says, fact by fact, in both directions: theorems of the machine speak of the record `Belongs`.
use mathlib.Core.Path.{◌≡◌, refl, ap}
use mathlib.Core.Bool.{Bool, true, false, cond, ◌&&◌, ◌||◌, not}
use mathlib.Core.List.{List}
use Prim.Native.Nat.{ℕ, ◌<◌, ◌≤◌}
use lib.ListN.{get_or}
use lib.Dec.{ltb, leb, eqb}
use native.Mathlib.Omega.{arith}
use native.Mathlib.Decide.{ℕ_discrete, dec_lt}
use borrow.Author.Tests.{ltb-true, leb-true, eqb-true, eqb-false, not-true, lt-ltb, le-leb, eq-eqb, ne_eqb}
use Rattle.ground.specs.Bounded.{count_below}
use Rattle.ground.proofs.Bools.{and-fst, and-snd, or_right, never}
use Rattle.ground.proofs.Bounded.{all-elim, all-intro, count-two, count-sole}
use Rattle.bundle.specs.Program.{Program}
use Rattle.held.specs.Word.{bit}
use Rattle.values.specs.Values.{zero_slot, is_ref_value, is_ref, object_of_value, object_of, refers_value, refers}
use Rattle.values.specs.declared.Slot.{Slot}
use Rattle.values.specs.declared.Value.{Value}
use Rattle.values.specs.declared.Value.TheVariants.{Int, Ref, Null}
use Rattle.threads.specs.declared.Thread.{Thread}
use Rattle.threads.specs.Threads.{var_of}
use Rattle.state.specs.declared.State.{State}
use Rattle.state.specs.State.{thread_at, count_of, word_of, class_of, field_of}
use Rattle.belongs.specs.Belongs.{places_refer, placed_ok, live_ok, thread_ok, threads_ok, object_ok, first_ok, objects_ok, fields_refer, fields_ok, count_ok, thread_counts_ok, counts_ok, bit_agrees, word_agrees, words_agree, Worded, holds_at, sole_holder, sole_holders, state_ok}

-- a live thread stands in a method of the bundle, and each place in use holds an integer or null, or refers to an object
pub record Placed (P : Program) (objects : ℕ) (t : Thread) : Type 0 where
  pub class_known : t.class < P.classes
  pub address_first : 1 ≤ t.at.0
  pub address_last : t.at.0 ≤ (P.method t.class).code
  pub depth_limit : t.depth ≤ (P.method t.class).limit
  pub variable_refers : (v : ℕ) → v < (P.method t.class).vars → refers objects (var_of t v) ≡ true
  pub stack_refers : (p : ℕ) → p < t.depth → refers objects (get_or t.stack p zero_slot) ≡ true

-- a count of thread i on object o
pub record Counted (objects : ℕ) (live : Bool) (o n : ℕ) : Type 0 where
  pub count_2047 : n ≤ 2047
  pub on_object : 0 < n → o < objects
  pub by_live : 0 < n → live ≡ true

pub record Belongs (P : Program) (s : State) : Type 0 where
  pub live_placed : (i : ℕ) → i < 8 → (thread_at s i).live ≡ true → Placed P s.objects (thread_at s i)
  pub some_object : 1 ≤ s.objects
  pub first_class : class_of s 0 ≡ P.exception
  pub objects_32 : s.objects ≤ 32
  pub object_class : (o : ℕ) → o < s.objects → class_of s o < P.classes
  pub field_refers : (o f : ℕ) → o < s.objects → f < (P.method (class_of s o)).fields → refers s.objects (field_of s.fields o f) ≡ true
  pub counted : (i o : ℕ) → i < 8 → o < 32 → Counted s.objects (thread_at s i).live o (count_of s.counts i o)
  pub one_holder : (i j o : ℕ) → i < 8 → j < 8 → o < 32 → 0 < count_of s.counts i o → 0 < count_of s.counts j o → i ≡ j
  pub worded : Worded s

-- what `refers` says of a reference
pub refers-object : (objects : ℕ) (x : Slot) → refers objects x ≡ true → is_ref x ≡ true → object_of x < objects
refers-object objects x e f = go x.value e f
  where
    go : (v : Value) → refers_value objects v ≡ true → is_ref_value v ≡ true → object_of_value v < objects
    go (Int z) e f = never f refl
    go (Ref o) e f = ltb-true o objects e
    go Null e f = never f refl

-- ---- one thread
placed-elim : (P : Program) (objects : ℕ) (t : Thread) → live_ok P objects t ≡ true → Placed P objects t
unfolding live_ok placed_ok places_refer
placed-elim P objects t e =
    record {
      class_known = ltb-true _ _ (search and-fst);
      address_first = leb-true _ _ (search (and-fst, and-snd));
      address_last = leb-true _ _ (search (and-fst, and-snd));
      depth_limit = leb-true _ _ (search (and-fst, and-snd));
      variable_refers = all-elim _ (P.method t.class).vars (search (and-fst, and-snd));
      stack_refers = all-elim _ t.depth (search (and-fst, and-snd));
    }

placed-intro : (P : Program) (objects : ℕ) (t : Thread) → Placed P objects t → live_ok P objects t ≡ true
unfolding live_ok placed_ok places_refer
placed-intro P objects t p =
    rw (
      lt-ltb _ _ p.class_known,
      le-leb _ _ p.address_first,
      le-leb _ _ p.address_last,
      le-leb _ _ p.depth_limit,
      all-intro _ (P.method t.class).vars p.variable_refers,
      all-intro _ t.depth p.stack_refers,
    )

-- ---- one count
counted-elim : (objects : ℕ) (live : Bool) (o n : ℕ) → count_ok objects live o n ≡ true → Counted objects live o n
unfolding count_ok
counted-elim objects live o n e = go (ℕ_discrete n 0)
  where
    go : Dec (n ≡ 0) → Counted objects live o n
    go (yes q) = record { count_2047 = omega arith; on_object = λ l. absurd (omega arith); by_live = λ l. absurd (omega arith) }
    go (no q) =
        let h = or_right (eqb n 0) _ e (ne_eqb n 0 q) in
        record {
          count_2047 = leb-true _ _ (search (and-fst, and-snd));
          on_object = λ l. ltb-true _ _ (search (and-fst, and-snd));
          by_live = λ l. search (and-fst, and-snd);
        }

counted-intro : (objects : ℕ) (live : Bool) (o n : ℕ) → Counted objects live o n → count_ok objects live o n ≡ true
unfolding count_ok
counted-intro objects live o n k = go (ℕ_discrete n 0)
  where
    go : Dec (n ≡ 0) → (eqb n 0 || (leb n 2047 && ltb o objects && live)) ≡ true
    go (yes q) = rw (eq-eqb n 0 q)
    go (no q) =
        let l : 0 < n = omega arith in
        rw (ne_eqb n 0 q, le-leb _ _ k.count_2047, lt-ltb _ _ (k.on_object l), k.by_live l)

-- ---- one bit
pub agrees-elim : (w o n : ℕ) → bit_agrees w o n ≡ true → bit w o ≡ ltb 0 n
agrees-elim w o n = go (ltb 0 n)
  where
    go : (t : Bool) → cond t (bit w o) (not (bit w o)) ≡ true → bit w o ≡ t
    go true e = e
    go false e = not-true _ e

pub agrees-intro : (w o n : ℕ) → bit w o ≡ ltb 0 n → bit_agrees w o n ≡ true
agrees-intro w o n = go (ltb 0 n)
  where
    go : (t : Bool) → bit w o ≡ t → cond t (bit w o) (not (bit w o)) ≡ true
    go true e = e
    go false e = rw e

-- ---- who holds an object
holds : (counts : List ℕ) (o i : ℕ) → 0 < count_of counts i o → holds_at counts o i ≡ true
holds counts o i l = ap not (ne_eqb (count_of counts i o) 0 (λ q. omega arith))

held : (counts : List ℕ) (o i : ℕ) → holds_at counts o i ≡ true → 0 < count_of counts i o
held counts o i e = omega (arith, eqb-false (count_of counts i o) 0 (not-true _ e))

sole-elim : (counts : List ℕ) (o i j : ℕ) → sole_holder counts o ≡ true → i < 8 → j < 8 → 0 < count_of counts i o → 0 < count_of counts j o → i ≡ j
unfolding sole_holder
sole-elim counts o i j e a b d f = go (ℕ_discrete i j) (dec_lt i j)
  where
    two : (i j : ℕ) → i < j → j < 8 → 0 < count_of counts i o → 0 < count_of counts j o → ⊥
    two i j l b d f =
        omega (
          arith,
          leb-true (count_below 8 (holds_at counts o)) 1 e,
          count-two (holds_at counts o) 8 i j l b (holds counts o i d) (holds counts o j f),
        )

    go : Dec (i ≡ j) → Dec (i < j) → i ≡ j
    go (yes q) r = q
    go (no q) (yes l) = absurd (two i j l b d f)
    go (no q) (no l) = absurd (two j i (omega arith) a f d)

sole-intro : (counts : List ℕ) (o : ℕ) → ((i j : ℕ) → i < 8 → j < 8 → 0 < count_of counts i o → 0 < count_of counts j o → i ≡ j) → sole_holder counts o ≡ true
unfolding sole_holder
sole-intro counts o h =
    le-leb _ _ (count-sole (holds_at counts o) 8 (λ i j l b d e. omega (arith, h i j (omega arith) b (held counts o i d) (held counts o j e))))

-- ---- the state
module _ (P : Program) (s : State) where
  threads-elim : threads_ok P s ≡ true → (i : ℕ) → i < 8 → (thread_at s i).live ≡ true → Placed P s.objects (thread_at s i)
  unfolding threads_ok thread_ok
  threads-elim e i l a =
      placed-elim P s.objects (thread_at s i) (or_right (not (thread_at s i).live) _ (all-elim _ 8 e i l) (rw a))

  threads-intro : ((i : ℕ) → i < 8 → (thread_at s i).live ≡ true → Placed P s.objects (thread_at s i)) → threads_ok P s ≡ true
  unfolding threads_ok thread_ok
  threads-intro h = all-intro _ 8 (λ i l. go i l (thread_at s i).live refl)
    where
      go : (i : ℕ) → i < 8 → (t : Bool) → (thread_at s i).live ≡ t → (not t || live_ok P s.objects (thread_at s i)) ≡ true
      go i l true a = placed-intro P s.objects (thread_at s i) (h i l a)
      go i l false a = refl

  pub counts-elim : counts_ok s ≡ true → (i o : ℕ) → i < 8 → o < 32
      → Counted s.objects (thread_at s i).live o (count_of s.counts i o)
  unfolding counts_ok thread_counts_ok
  counts-elim e i o l k = counted-elim s.objects (thread_at s i).live o _ (all-elim _ 32 (all-elim _ 8 e i l) o k)

  counts-intro : ((i o : ℕ) → i < 8 → o < 32 → Counted s.objects (thread_at s i).live o (count_of s.counts i o)) → counts_ok s ≡ true
  unfolding counts_ok thread_counts_ok
  counts-intro h = all-intro _ 8 (λ i l. all-intro _ 32 (λ o k. counted-intro s.objects (thread_at s i).live o _ (h i o l k)))

  pub words-elim : words_agree s ≡ true → Worded s
  unfolding words_agree word_agrees
  words-elim e i o l k = agrees-elim (word_of s.held i) o (count_of s.counts i o) (all-elim _ 32 (all-elim _ 8 e i l) o k)

  words-intro : Worded s → words_agree s ≡ true
  unfolding words_agree word_agrees
  words-intro h = all-intro _ 8 (λ i l. all-intro _ 32 (λ o k. agrees-intro (word_of s.held i) o (count_of s.counts i o) (h i o l k)))

  pub objects-elim : objects_ok P s.objects s.classes ≡ true → s.objects ≤ 32
  unfolding objects_ok
  objects-elim e = leb-true _ _ (search (and-fst, and-snd))

  pub belongs-elim : state_ok P s ≡ true → Belongs P s
  unfolding state_ok objects_ok first_ok sole_holders fields_ok fields_refer
  belongs-elim e =
      let counts = counts-elim (search (and-fst, and-snd)) in
      record {
        live_placed = threads-elim (search (and-fst, and-snd));
        some_object = leb-true _ _ (search (and-fst, and-snd) depth 8);
        first_class = eqb-true _ _ (search (and-fst, and-snd) depth 8);
        objects_32 = objects-elim (search (and-fst, and-snd));
        object_class = λ o l. ltb-true _ _ (all-elim (object_ok P s.classes) s.objects (search (and-fst, and-snd) depth 8) o l);
        field_refers = λ o f l k. all-elim _ (P.method (class_of s o)).fields (all-elim (fields_refer P s.objects s.classes s.fields) s.objects (search (and-fst, and-snd)) o l) f k;
        counted = counts;
        one_holder = λ i j o a b l d f. sole-elim s.counts o i j (all-elim (sole_holder s.counts) s.objects (search (and-fst, and-snd)) o ((counts i o a l).on_object d)) a b d f;
        worded = words-elim (search (and-fst, and-snd));
      }

  pub belongs-intro : Belongs P s → state_ok P s ≡ true
  unfolding state_ok objects_ok first_ok sole_holders fields_ok fields_refer
  belongs-intro h =
      rw (
        le-leb _ _ h.some_object,
        eq-eqb _ _ h.first_class,
        le-leb _ _ h.objects_32,
        all-intro _ s.objects (λ o l. lt-ltb _ _ (h.object_class o l)),
        threads-intro h.live_placed,
        counts-intro h.counted,
        words-intro h.worded,
        all-intro _ s.objects (λ o l. sole-intro s.counts o (λ i j a b. h.one_holder i j o a b (omega (arith, h.objects_32)))),
        all-intro _ s.objects (λ o l. all-intro _ (P.method (class_of s o)).fields (λ f k. h.field_refers o f l k)),
      )
