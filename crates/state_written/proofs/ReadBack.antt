-- THEOREM `reads-back`: what is written is read back. A place, a thread and a state are read by where their bytes stand among the bytes g.
use mathlib.Core.List.{List, [], ◌∷◌, ◌++◌}
use mathlib.Core.Bool.{Bool, true, false, cond}
use mathlib.Core.Path.{◌≡◌, refl, sym, ◌∙◌}
use Prim.Native.Nat.{ℕ, zero, suc, ◌+◌, ◌*◌, ◌-◌, ◌/◌, ◌%◌, ◌<◌, ◌≤◌}
use lib.Arith.{mod-mul}
use lib.Dec.{leb, eqb}
use lib.IntN.{pos, negsuc}
use lib.ListN.{length, get_or, replicate, length-append, length-replicate, get_or-append}
use lib.Seq.{get_or-append-add, ext_get_or}
use native.Mathlib.Nat.{mod-eq_of_lt}
use native.Mathlib.Omega.{arith}
use native.Mathlib.Decide.{ℕ_discrete, dec_lt}
use borrow.Author.Tests.{lt-ltb, le-ltb, eq-eqb}
use Rattle.ground.specs.Bytes.{at, be16, quad}
use Rattle.ground.specs.Bounded.{set_below}
use Rattle.ground.specs.Lists.{each}
use Rattle.ground.proofs.Bounded.{all-intro}
use Rattle.ground.proofs.Writes.{set-length, set_below_lem}
use Rattle.values.specs.declared.Value.{Value}
use Rattle.values.specs.declared.Value.TheVariants.{Int, Ref, Null}
use Rattle.values.specs.declared.Slot.{Slot}
use Rattle.values.specs.Values.{slot, zero_slot}
use Rattle.threads.specs.declared.Thread.{Thread}
use Rattle.threads.specs.Threads.{idle}
use Rattle.state.specs.declared.State.{State}
use Rattle.state_bytes.specs.Format.{is_place, place_of, is_place_at, place_at, is_thread, thread_of, is_thread_at, threads_at, count_at, class_at, word_at, is_state, state_of}
use Rattle.state_written.specs.Written.{halves, quad_bytes, place_bytes, place_bytes_at, thread_bytes, thread_bytes_at, count_bytes_at, class_bytes_at, word_bytes_at, state_bytes}
use Rattle.state_written.specs.ReadBack.{ValueFits, PlacesFit, ThreadFits, StateFits, ReadsBack}
use Rattle.state_written.specs.Widths.{long-each, thread-long}
use Rattle.state_written.proofs.Writing.{long-A, long-AB, long-ABO, long-ABOC, long-ABOCD, bytes-long}

-- the bytes l stand in g from p on
record Has (g : List ℕ) (p : ℕ) (l : List ℕ) : Type 0 where
  within : p + length l ≤ length g
  byte : (j : ℕ) → j < length l → at g (p + j) ≡ at l j

-- a loop that writes the n elements of a list
all_back : {A : Type 0} (n : ℕ) (f : ℕ → A) (d : A) (l : List A) → length l ≡ n → ((i : ℕ) → i < n → f i ≡ get_or l i d) → set_below n f (replicate n d) ≡ l
all_back n f d l e h =
    ext_get_or d (set_below n f (replicate n d)) l (long ∙ sym e)
    (λ i k. set_below_lem f (replicate n d) n i d (omega (arith, long)) (omega (arith, length-replicate n d)) ∙ h i (omega (arith, long)))
  where
    long : length (set_below n f (replicate n d)) ≡ n
    long = set-length f (replicate n d) n ∙ length-replicate n d

module _ (g : List ℕ) where
  whole : Has g 0 g
  whole = record { within = omega arith; byte = λ j l. let e : 0 + j ≡ j = omega arith in rw e }

  read : (p : ℕ) (l : List ℕ) → Has g p l → (j q : ℕ) → q ≡ p + j → j < length l → at g q ≡ at l j
  read p l h j q e k = rw e (h.byte j k)

  front : (p : ℕ) (l m : List ℕ) → Has g p (l ++ m) → Has g p l
  front p l m h =
      record {
        within = omega (arith, h.within, length-append l m);
        byte = λ j k. h.byte j (omega (arith, length-append l m)) ∙ get_or-append l m 0 j k;
      }

  back : (p q : ℕ) (l m : List ℕ) → q ≡ p + length l → Has g p (l ++ m) → Has g q m
  back p q l m e h =
      record {
        within = omega (arith, h.within, length-append l m);
        byte = λ j k. read p (l ++ m) h (length l + j) (q + j) (omega arith) (omega (arith, length-append l m)) ∙ get_or-append-add l m j 0;
      }

  -- one of n parts
  module _ (f : ℕ → List ℕ) where
    one : (n p : ℕ) → Has g p (each n f) → (i q : ℕ) → i < n → q ≡ p + length (each i f) → Has g q (f i)
    unfolding each
    one zero p h i q l e = absurd (omega arith)
    one (suc n) p h i q l e = go (λ k. one n p (front p (each n f) (f n) h) i q k e) (ℕ_discrete i n)
      where
        go : (i < n → Has g q (f i)) → Dec (i ≡ n) → Has g q (f i)
        go r (yes z) = rw z (back p q (each n f) (f n) (rw z at e) h)
        go r (no z) = r (omega arith)

  -- ---- numbers
  two_digits : (n : ℕ) → n < 65536 → n / 256 % 256 * 256 + n % 256 ≡ n
  two_digits n l = sym (mod-mul n {m = 256} {c = 256} (omega arith) (omega arith)) ∙ mod-eq_of_lt l

  four-digits : (n : ℕ) → n < 4294967296 → (n / 16777216 % 256 * 256 + n / 65536 % 256) * 65536 + (n / 256 % 256 * 256 + n % 256) ≡ n
  four-digits n l =
      omega (
        arith,
        mod-eq_of_lt l,
        mod-mul n {m = 256} {c = 16777216} (omega arith) (omega arith),
        mod-mul n {m = 256} {c = 65536} (omega arith) (omega arith),
        mod-mul n {m = 256} {c = 256} (omega arith) (omega arith),
      )

  halves-back : (n p : ℕ) → n < 65536 → Has g p (halves n) → be16 g p ≡ n
  halves-back n p l h = rw (read p (halves n) h 0 p (omega arith) (omega arith), read p (halves n) h 1 (p + 1) refl (omega arith)) (two_digits n l)

  quad-back : (n p : ℕ) → n < 4294967296 → Has g p (quad_bytes n) → quad g p ≡ n
  unfolding quad
  quad-back n p l h =
      rw (
        lt-ltb (p + 3) (length g) (omega (arith, h.within)),
        read p (quad_bytes n) h 0 p (omega arith) (omega arith),
        read p (quad_bytes n) h 1 (p + 1) refl (omega arith),
        read p (quad_bytes n) h 2 (p + 2) refl (omega arith),
        read p (quad_bytes n) h 3 (p + 2 + 1) (omega arith) (omega arith),
      )
      (four-digits n l)

  -- ---- places
  place-back : (v : Value) (p : ℕ) → ValueFits v → Has g p (place_bytes (slot v)) → (place_of g p ≡ slot v) × (is_place g p ≡ true)
  unfolding place_of is_place
  place-back (Int (pos n)) p l h =
      let k = read p _ h 0 p (omega arith) (omega arith) in
      let e = quad-back n (p + 1) (omega arith) (back p (p + 1) (0 ∷ []) (quad_bytes n) refl h) in
      (rw (k, e, lt-ltb n 2147483648 l), rw k)
  place-back (Int (negsuc n)) p l h =
      let k = read p _ h 0 p (omega arith) (omega arith) in
      let w : 4294967295 - (4294967295 - n) ≡ n = omega arith in
      let e = quad-back (4294967295 - n) (p + 1) (omega arith) (back p (p + 1) (0 ∷ []) (quad_bytes (4294967295 - n)) refl h) in
      (rw (k, e, le-ltb (4294967295 - n) 2147483648 (omega arith), w), rw k)
  place-back (Ref o) p l h =
      let k = read p _ h 0 p (omega arith) (omega arith) in
      let e = quad-back o (p + 1) (omega arith) (back p (p + 1) (1 ∷ []) (quad_bytes o) refl h) in
      (rw (k, read p _ h 4 (p + 4) refl (omega arith), mod-eq_of_lt l), rw (k, e, lt-ltb o 256 l))
  place-back Null p l h =
      let k = read p _ h 0 p (omega arith) (omega arith) in
      let e = quad-back 0 (p + 1) (omega arith) (back p (p + 1) (2 ∷ []) (quad_bytes 0) refl h) in
      (rw k, rw (k, e))

  -- n places
  module _ (n p : ℕ) (l : List Slot) (h : Has g p (each n (place_bytes_at l))) (f : PlacesFit n l) where
    each-place : (i : ℕ) → i < n → (place_at g p i ≡ get_or l i zero_slot) × (is_place_at g p i ≡ true)
    each-place i k =
        place-back (get_or l i zero_slot).value (p + i * 5) (f.fits i k)
        (one (place_bytes_at l) n p h i (p + i * 5) k (omega (arith, long-each (place_bytes_at l) 5 (λ j. refl) i)))

    places-back : set_below n (place_at g p) (replicate n zero_slot) ≡ l
    places-back = all_back n (place_at g p) zero_slot l f.long (λ i k. (each-place i k).0)

  -- ---- a thread
  live_back : (b : Bool) (p : ℕ) → at g p ≡ cond b 1 0 → (eqb (at g p) 1 ≡ b) × (leb (at g p) 1 ≡ true)
  live_back true p e = (rw e, rw e)
  live_back false p e = (rw e, rw e)

  module _ (t : Thread) (p : ℕ) (f : ThreadFits t) (h : Has g p (thread_bytes t)) where
    abbrev H : List ℕ
    H = cond t.live 1 0 ∷ t.class ∷ t.at.0 / 256 % 256 ∷ t.at.0 % 256 ∷ t.depth ∷ []

    abbrev Vs : List ℕ
    Vs = each 16 (place_bytes_at t.vars)

    abbrev W : List ℕ
    W = each 16 (place_bytes_at t.stack)

    upto-vars : Has g p (H ++ Vs)
    unfolding thread_bytes
    upto-vars = front p (H ++ Vs) W h

    head : Has g p H
    head = front p H Vs upto-vars

    vars-at : Has g (p + 5) Vs
    vars-at = back p (p + 5) H Vs refl upto-vars

    stack_at : Has g (p + 85) W
    unfolding thread_bytes
    stack_at = back p (p + 85) (H ++ Vs) W (omega (arith, length-append H Vs, long-each (place_bytes_at t.vars) 5 (λ i. refl) 16)) h

    thread-back : thread_of g p ≡ t
    unfolding thread_of
    thread-back =
        rw (
          (live_back t.live p (read p H head 0 p (omega arith) (omega arith))).0,
          read p H head 1 (p + 1) refl (omega arith),
          halves-back t.at.0 (p + 2) f.address_16 (back p (p + 2) (cond t.live 1 0 ∷ t.class ∷ []) (halves t.at.0) refl (front p (cond t.live 1 0 ∷ t.class ∷ t.at.0 / 256 % 256 ∷ t.at.0 % 256 ∷ []) (t.depth ∷ []) head)),
          read p H head 4 (p + 4) refl (omega arith),
          places-back 16 (p + 5) t.vars vars-at f.vars,
          places-back 16 (p + 85) t.stack stack_at f.stack,
        )

    -- its 32 places stand in one row
    place_is : (i : ℕ) → i < 32 → Dec (i < 16) → is_place_at g (p + 5) i ≡ true
    place_is i l (yes k) = (each-place 16 (p + 5) t.vars vars-at f.vars i k).1
    place_is i l (no k) = go (i - 16) (omega arith) (omega arith)
      where
        go : (j : ℕ) → i ≡ 16 + j → j < 16 → is_place_at g (p + 5) i ≡ true
        go j e m =
            let q : p + 5 + i * 5 ≡ p + 85 + j * 5 = omega arith in
            rw q (each-place 16 (p + 85) t.stack stack_at f.stack j m).1

    thread-is : is_thread g p ≡ true
    unfolding is_thread
    thread-is =
        rw (live_back t.live p (read p H head 0 p (omega arith) (omega arith))).1
        (all-intro (is_place_at g (p + 5)) 32 (λ i l. place_is i l (dec_lt i 16)))

-- ---- a state
module _ (s : State) (f : StateFits s) where
  abbrev G : List ℕ
  G = state_bytes s

  abbrev A : List ℕ
  A = each 8 (thread_bytes_at s.threads)

  abbrev B : List ℕ
  B = each 256 (count_bytes_at s.counts)

  abbrev O : List ℕ
  O = s.objects ∷ []

  abbrev C : List ℕ
  C = each 32 (class_bytes_at s.classes)

  abbrev D : List ℕ
  D = each 128 (place_bytes_at s.fields)

  abbrev E : List ℕ
  E = each 8 (word_bytes_at s.held)

  to-D : Has G 0 (A ++ B ++ O ++ C ++ D)
  unfolding state_bytes
  to-D = front G 0 (A ++ B ++ O ++ C ++ D) E (whole G)

  to-C : Has G 0 (A ++ B ++ O ++ C)
  to-C = front G 0 (A ++ B ++ O ++ C) D to-D

  to-O : Has G 0 (A ++ B ++ O)
  to-O = front G 0 (A ++ B ++ O) C to-C

  to-B : Has G 0 (A ++ B)
  to-B = front G 0 (A ++ B) O to-O

  threads-at : Has G 0 A
  threads-at = front G 0 A B to-B

  counts-at : Has G 1320 B
  counts-at = back G 0 1320 A B (omega (arith, long-A s)) to-B

  object-at : Has G 1832 O
  object-at = back G 0 1832 (A ++ B) O (omega (arith, long-AB s)) to-O

  classes-at : Has G 1833 C
  classes-at = back G 0 1833 (A ++ B ++ O) C (omega (arith, long-ABO s)) to-C

  fields_at : Has G 1865 D
  fields_at = back G 0 1865 (A ++ B ++ O ++ C) D (omega (arith, long-ABOC s)) to-D

  words-at : Has G 2505 E
  unfolding state_bytes
  words-at = back G 0 2505 (A ++ B ++ O ++ C ++ D) E (omega (arith, long-ABOCD s)) (whole G)

  thread-at : (i : ℕ) → i < 8 → Has G (i * 165) (thread_bytes_at s.threads i)
  thread-at i l =
      one G (thread_bytes_at s.threads) 8 0 threads-at i (i * 165) l
      (omega (arith, long-each (thread_bytes_at s.threads) 165 (λ j. thread-long (get_or s.threads j idle)) i))

  state-back : state_of G ≡ s
  unfolding state_of
  state-back =
      rw (
        all_back 8 (threads_at G) idle s.threads f.threads_8 (λ i l. thread-back G (get_or s.threads i idle) (i * 165) (f.threads i l) (thread-at i l)),
        all_back 256 (count_at G) 0 s.counts f.counts.long count-back,
        read G 1832 O object-at 0 1832 refl (omega arith),
        all_back 32 (class_at G) 0 s.classes f.classes.long class_back,
        places-back G 128 1865 s.fields fields_at f.fields,
        all_back 8 (word_at G) 0 s.held f.held.long word_back,
      )
    where
      count-back : (i : ℕ) → i < 256 → count_at G i ≡ at s.counts i
      count-back i l =
          halves-back G (at s.counts i) (1320 + i * 2) (f.counts.fits i l)
          (one G (count_bytes_at s.counts) 256 1320 counts-at i (1320 + i * 2) l (omega (arith, long-each (count_bytes_at s.counts) 2 (λ j. refl) i)))

      class_back : (i : ℕ) → i < 32 → class_at G i ≡ at s.classes i
      class_back i l =
          read G (1833 + i) (class_bytes_at s.classes i)
          (one G (class_bytes_at s.classes) 32 1833 classes-at i (1833 + i) l (omega (arith, long-each (class_bytes_at s.classes) 1 (λ j. refl) i)))
          0 (1833 + i) (omega arith) (omega arith)

      word_back : (i : ℕ) → i < 8 → word_at G i ≡ at s.held i
      word_back i l =
          quad-back G (at s.held i) (2505 + i * 4) (f.held.fits i l)
          (one G (word_bytes_at s.held) 8 2505 words-at i (2505 + i * 4) l (omega (arith, long-each (word_bytes_at s.held) 4 (λ j. refl) i)))

  state-is : is_state G ≡ true
  unfolding is_state
  state-is =
      rw (
        eq-eqb (length G) 2537 (bytes-long s),
        all-intro (is_place_at G 1865) 128 (λ i l. (each-place G 128 1865 s.fields fields_at f.fields i l).1),
      )
      (all-intro (is_thread_at G) 8 (λ i l. thread-is G (get_or s.threads i idle) (i * 165) (f.threads i l) (thread-at i l)))

pub reads-back : ReadsBack
reads-back s f = (state-is s f, state-back s f)
