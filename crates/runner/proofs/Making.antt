-- new, getfield and putfield: what is known there, and that what their functions write is document 01's step.
use mathlib.Core.List.{List}
use mathlib.Core.Path.{◌≡◌, refl, sym, ap, subst, ◌∙◌}
use mathlib.Core.Bool.{Bool, true, false, cond, ◌&&◌, ◌||◌}
use Prim.Native.Nat.{ℕ, ◌+◌, ◌*◌, ◌-◌, ◌<◌, ◌≤◌}
use lib.Dec.{leb, eqb}
use lib.ListN.{get_or, set}
use native.Mathlib.Omega.{arith}
use borrow.Author.Tests.{leb-true, leb-false}
use Rattle.ground.specs.Bytes.{at}
use Rattle.ground.proofs.Bools.{and-fst, and-snd, or_right, or-false-snd}
use Rattle.instructions.specs.declared.Addr.{Addr}
use Rattle.instructions.specs.declared.Instruction.TheVariants.{New, Get, Put}
use Rattle.bundle.specs.Program.{program_of}
use Rattle.values.specs.declared.Slot.{Slot}
use Rattle.values.specs.Values.{zero_slot, ref_slot, is_null, is_ref, object_of, refers}
use Rattle.threads.specs.declared.Thread.{Thread}
use Rattle.threads.specs.Threads.{from_top, top_of, with_at, topped, pushed, popped}
use Rattle.state.specs.declared.State.{State}
use Rattle.state.specs.State.{fields_with}
use Rattle.belongs.proofs.Belongs.{refers-object}
use Rattle.turns.specs.Stepped.{Stepped}
use Rattle.turns.specs.Faults.{has, room, may_be_object, is_field_value}
use Rattle.turns.specs.Moves.{went_on, throw_move, fail_move, first_fields, make_move, move_of}
use Rattle.memory.specs.Tab.{tab}
use Rattle.memory.specs.Words.{slot_of, object_in}
use Rattle.memory.specs.declared.Frame.{Frame}
use Rattle.memory.specs.Frames.{address_in, depth_in, top_in, under_in, went_in, topped_in, pushed_in, dropped_in, thrown_in}
use Rattle.memory.proofs.Tab.{tab-at}
use Rattle.memory.proofs.Meaning.{word-object, ref-object, null-high}
use Rattle.memory.proofs.Writes.{top_read, under-read}
use Rattle.memory.proofs.Frames.{Is, went-is, topped-is, pushed-is, dropped-is}
use Rattle.runner.specs.declared.table.Row.{Row}
use Rattle.runner.specs.declared.running.Memory.{Memory}
use Rattle.runner.specs.Memory.{memory, framed, thread_from, slot_from, state_from, Sized, Acted, acted}
use Rattle.runner.specs.Objects.{fields_in, added_in, new_in}
use Rattle.runner.specs.Fields.{got_in, put_in}
use Rattle.runner.specs.Poised.{Poised, Turned}
use Rattle.runner.proofs.Stores.{threads-set, sized_set, fields-set, sized-field, fields_made, sized-made, object-made}
use Rattle.runner.proofs.Known.{test-holds, test-rest, row_is, F, M, X, formed, depth-16, next_fits, frame_16, placed-here}
use Rattle.runner.proofs.Steps.{quiet, listed, goes, moved, threw, pushes}
use Rattle.runner.proofs.Entering.{Here, either}

-- the frame, and the thread at its next address
module _ (b : List ℕ) (table : List Row) (m : Memory) (i : ℕ) (z : Poised b table m i) where
  pub on : (p : Frame) (u : Thread) → Is p u → Is (went_in p (address_in (F b table m i z) + 1)) (with_at u (address_in (F b table m i z) + 1))
  on p u h = went-is p u (address_in (F b table m i z) + 1) h (next_fits b table m i z)

  pub resized : (p : Frame) (fields : List ℕ) → Sized m.frames fields → (u : Thread) → Is p u → Sized (set m.frames i p) fields
  resized p fields s u h = sized_set m.frames i p z.running.sized.frames_8 z.thread_8 fields s h.sized

  pub rethreaded : (p : Frame) (u : Thread) → Is p u → tab 8 (thread_from (set m.frames i p)) ≡ set (tab 8 (thread_from m.frames)) i u
  rethreaded p u h = threads-set m.frames i p z.running.sized.frames_8 z.thread_8 u h.thread

-- ---- new
module _ (b : List ℕ) (table : List Row) (m : Memory) (i : ℕ) (z : Poised b table m i) (fails : Bool) (c : ℕ) (h : Addr) (q : X b table m i z ≡ New c h) where
  pub new-known : c < 8
  new-known = omega (arith, (listed b table m i z fails (New c h) q).0, (formed b table m i z).few_classes)

  first-are : (d : Row) (o : ℕ) → o < 32 → tab 128 (slot_from (fields_in m.fields o (get_or table c d).first)) ≡ fields_with (tab 128 (slot_from m.fields)) o (first_fields ((program_of b).method c))
  unfolding program_of
  first-are d o l = rw (row_is b table m z.running c d new-known) (fields_made b c o m.fields z.running.sized.fields_128 l)

  first-sized : (d : Row) (o : ℕ) → o < 32 → Sized m.frames (fields_in m.fields o (get_or table c d).first)
  first-sized d o l = rw (row_is b table m z.running c d new-known) (sized-made b c o m.fields z.running.sized.fields_128 l m.frames z.running.sized)

  abbrev Large : Bool
  Large = fails || leb 32 m.objects

  new-throws : Large ≡ true → cond Large (fail_move (state_from m) i (Here m i) (M b table m i z).vars h) (make_move (program_of b) (state_from m) i (Here m i) c)
      ≡ throw_move (state_from m) i (Here m i) (M b table m i z).vars h (slot_of 4294967296)
  new-throws f = rw f (ap (throw_move (state_from m) i (Here m i) (M b table m i z).vars h) (sym (word-object 0 (omega arith))))

  new-makes : Large ≡ false → cond Large (fail_move (state_from m) i (Here m i) (M b table m i z).vars h) (make_move (program_of b) (state_from m) i (Here m i) c)
      ≡ make_move (program_of b) (state_from m) i (Here m i) c
  new-makes f = rw f

  new-room : Large ≡ false → depth_in (F b table m i z) < 16
  new-room f = pushes b table m i z fails (test-holds (room (M b table m i z).limit (Here m i)) 12 0 (omega arith) (rw f at (quiet b table m i z fails (New c h) q)))

  pub new-turned : (r : ℕ) (m' : Memory) (d : Row)
      → acted r m' ≡ new_in m i (M b table m i z).vars fails c (get_or table c d).first h.0 (address_in (F b table m i z) + 1) → Turned b m m' r i fails
  unfolding new_in added_in
  new-turned r m' d e = subst Q (sym e) (either Q Large _ _ full some)
    where
      Q : Acted → Type 0
      Q x = Turned b m x.after x.answer i fails

      full : Large ≡ true → Turned b m (framed m i (thrown_in (F b table m i z) (M b table m i z).vars h.0 4294967296)) (cond (eqb h.0 0) 2 0) i fails
      full f = threw b table m i z fails (New c h) q refl h 4294967296 (listed b table m i z fails (New c h) q).1 (new-throws f)

      some : Large ≡ false → Turned b m
          (memory (set m.frames i (went_in (pushed_in (F b table m i z) (4294967296 + m.objects)) (address_in (F b table m i z) + 1))) m.counts m.held (m.objects + 1) (set m.classes m.objects c)
          (fields_in m.fields m.objects (get_or table c d).first))
          0 i fails
      some f =
          let l : m.objects < 32 = leb-false 32 _ (or-false-snd fails _ f) in
          let k = on b table m i z _ _ (pushed-is (F b table m i z) (frame_16 b table m i z) (4294967296 + m.objects) (new-room f)) in
          goes b table m i z fails (New c h) q refl _ 0 (resized b table m i z _ _ (first-sized d m.objects l) _ k)
          (new-makes f
          ∙ ap (λ (s : State). went_on s i (Here m i).at (pushed (Here m i) (ref_slot m.objects))) (sym (object-made (state_from m) c (first_fields ((program_of b).method c)) l))
          ∙ ap (λ (x : Slot). made-state (pushed (Here m i) x)) (sym (word-object m.objects (omega arith)))
          ∙ ap (λ (ts : List Thread). record {
            answer = 0;
            state = record {
              threads = ts;
              counts = m.counts;
              objects = m.objects + 1;
              classes = set m.classes m.objects c;
              fields = fields_with (tab 128 (slot_from m.fields)) m.objects (first_fields ((program_of b).method c));
              held = m.held;
            };
          })
          (sym (rethreaded b table m i z _ _ k))
          ∙ ap (λ (fs : List Slot). record {
            answer = 0;
            state = record {
              threads = tab 8 (thread_from (set m.frames i (went_in (pushed_in (F b table m i z) (4294967296 + m.objects)) (address_in (F b table m i z) + 1))));
              counts = m.counts;
              objects = m.objects + 1;
              classes = set m.classes m.objects c;
              fields = fs;
              held = m.held;
            };
          })
          (sym (first-are d m.objects l)))
        where
          made-state : Thread → Stepped
          made-state u =
              went_on
              (record {
                threads = tab 8 (thread_from m.frames);
                counts = m.counts;
                objects = m.objects + 1;
                classes = set m.classes m.objects c;
                fields = fields_with (tab 128 (slot_from m.fields)) m.objects (first_fields ((program_of b).method c));
                held = m.held;
              })
              i (Here m i).at u

-- ---- fields
module _ (b : List ℕ) (table : List Row) (m : Memory) (i : ℕ) (z : Poised b table m i) where
  -- what refers on the stack refers to an object
  entry-refers : (j : ℕ) → j < depth_in (F b table m i z) → refers m.objects (from_top (Here m i) j) ≡ true
  entry-refers j l = (placed-here b table m i z).stack_refers (depth_in (F b table m i z) - 1 - j) (omega arith)

  -- an owner that isn't null, with the word w
  owner-refers : (x : Slot) (w c : ℕ) → x ≡ slot_of w → may_be_object m.classes c x ≡ true → leb 4294967552 w ≡ false → is_ref x ≡ true
  unfolding may_be_object
  owner-refers x w c e g f = and-fst (is_ref x) _ (or_right (is_null x) _ g (ap is_null e ∙ null-high w ∙ f))

  owner-object : (x : Slot) (w : ℕ) → x ≡ slot_of w → is_ref x ≡ true → object_in w ≡ object_of x
  owner-object x w e r = ref-object w (subst (λ (y : Slot). is_ref y ≡ true) e r) ∙ ap object_of (sym e)

  owner-32 : (x : Slot) (w : ℕ) → x ≡ slot_of w → is_ref x ≡ true → refers m.objects x ≡ true → object_in w < 32
  owner-32 x w e r g = omega (arith, owner-object x w e r, refers-object m.objects x g r, z.running.inv.whole.objects_32)

-- getfield
module _ (b : List ℕ) (table : List Row) (m : Memory) (i : ℕ) (z : Poised b table m i) (fails : Bool) (c f : ℕ) (h : Addr) (q : X b table m i z ≡ Get c f h) where
  get-deep : 1 ≤ depth_in (F b table m i z)
  get-deep = leb-true 1 _ (test-holds (has 1 (Here m i)) 11 _ (omega arith) (quiet b table m i z fails (Get c f h) q))

  get-owner : may_be_object m.classes c (top_of (Here m i)) ≡ true
  get-owner =
      test-holds (may_be_object m.classes c (top_of (Here m i))) 13 _ (omega arith) (test-rest (has 1 (Here m i)) 11 _ (omega arith) (quiet b table m i z fails (Get c f h) q))

  get-word : top_of (Here m i) ≡ slot_of (top_in (F b table m i z))
  get-word = top_read (F b table m i z) get-deep (depth-16 b table m i z)

  get-field : f < 4
  get-field = omega (arith, (listed b table m i z fails (Get c f h) q).1, (formed b table m i z).fields_4 c (listed b table m i z fails (Get c f h) q).0)

  module _ (g : leb 4294967552 (top_in (F b table m i z)) ≡ false) where
    get-refers : is_ref (top_of (Here m i)) ≡ true
    get-refers = owner-refers b table m i z (top_of (Here m i)) (top_in (F b table m i z)) c get-word get-owner g

    pub get-known : object_in (top_in (F b table m i z)) * 4 + f < 128
    get-known =
        omega (arith, get-field, owner-32 b table m i z (top_of (Here m i)) (top_in (F b table m i z)) get-word get-refers (entry-refers b table m i z 0 (omega (arith, get-deep))))

    get-moves : move_of (program_of b) (state_from m) i (Here m i) (M b table m i z) fails (Get c f h)
        ≡ went_on (state_from m) i (Here m i).at (topped (Here m i) (slot_of (at m.fields (object_in (top_in (F b table m i z)) * 4 + f))))
    get-moves =
        let n : is_null (top_of (Here m i)) ≡ false = ap is_null get-word ∙ null-high (top_in (F b table m i z)) ∙ g in
        rw (n, ← owner-object b table m i z (top_of (Here m i)) (top_in (F b table m i z)) get-word get-refers)
        (ap (λ (x : Slot). went_on (state_from m) i (Here m i).at (topped (Here m i) x)) (tab-at 128 (slot_from m.fields) (object_in (top_in (F b table m i z)) * 4 + f) zero_slot get-known))

  pub get-turned : (r : ℕ) (m' : Memory)
      → acted r m' ≡ got_in m i (M b table m i z).vars f h.0 (address_in (F b table m i z) + 1) → Turned b m m' r i fails
  unfolding got_in
  get-turned r m' e = subst Q (sym e) (either Q (leb 4294967552 (top_in (F b table m i z))) _ _ throws reads)
    where
      Q : Acted → Type 0
      Q x = Turned b m x.after x.answer i fails

      throws : leb 4294967552 (top_in (F b table m i z)) ≡ true
          → Turned b m (framed m i (thrown_in (F b table m i z) (M b table m i z).vars h.0 4294967296)) (cond (eqb h.0 0) 2 0) i fails
      throws g =
          let n : is_null (top_of (Here m i)) ≡ true = ap is_null get-word ∙ null-high (top_in (F b table m i z)) ∙ g in
          let k : move_of (program_of b) (state_from m) i (Here m i) (M b table m i z) fails (Get c f h) ≡ throw_move (state_from m) i (Here m i) (M b table m i z).vars h (slot_of 4294967296) =
          rw n (ap (throw_move (state_from m) i (Here m i) (M b table m i z).vars h) (sym (word-object 0 (omega arith)))) in
          threw b table m i z fails (Get c f h) q refl h 4294967296 (listed b table m i z fails (Get c f h) q).2 k

      reads : leb 4294967552 (top_in (F b table m i z)) ≡ false
          → Turned b m (framed m i (went_in (topped_in (F b table m i z) (at m.fields (object_in (top_in (F b table m i z)) * 4 + f))) (address_in (F b table m i z) + 1))) 0 i fails
      reads g =
          moved b table m i z fails (Get c f h) q refl _ _ 0
          (on b table m i z _ _ (topped-is (F b table m i z) (frame_16 b table m i z) (depth-16 b table m i z) (at m.fields (object_in (top_in (F b table m i z)) * 4 + f)) get-deep)) (get-moves g)

-- putfield
module _ (b : List ℕ) (table : List Row) (m : Memory) (i : ℕ) (z : Poised b table m i) (fails : Bool) (c f : ℕ) (h : Addr) (q : X b table m i z ≡ Put c f h) where
  put-deep : 2 ≤ depth_in (F b table m i z)
  put-deep = leb-true 2 _ (test-holds (has 2 (Here m i)) 11 _ (omega arith) (quiet b table m i z fails (Put c f h) q))

  put-owner : may_be_object m.classes c (from_top (Here m i) 1) ≡ true
  put-owner =
      and-snd (is_field_value m.classes (((program_of b).method c).field f) (top_of (Here m i))) _
      (test-holds (is_field_value m.classes (((program_of b).method c).field f) (top_of (Here m i)) && may_be_object m.classes c (from_top (Here m i) 1)) 13 _ (omega arith)
      (test-rest (has 2 (Here m i)) 11 _ (omega arith) (quiet b table m i z fails (Put c f h) q)))

  put_word : from_top (Here m i) 1 ≡ slot_of (under_in (F b table m i z))
  put_word = under-read (F b table m i z) put-deep (depth-16 b table m i z)

  put-value : top_of (Here m i) ≡ slot_of (top_in (F b table m i z))
  put-value = top_read (F b table m i z) (omega (arith, put-deep)) (depth-16 b table m i z)

  put-field : f < 4
  put-field = omega (arith, (listed b table m i z fails (Put c f h) q).1, (formed b table m i z).fields_4 c (listed b table m i z fails (Put c f h) q).0)

  module _ (g : leb 4294967552 (under_in (F b table m i z)) ≡ false) where
    put-refers : is_ref (from_top (Here m i) 1) ≡ true
    put-refers = owner-refers b table m i z (from_top (Here m i) 1) (under_in (F b table m i z)) c put_word put-owner g

    pub put-known : object_in (under_in (F b table m i z)) * 4 + f < 128
    put-known =
        omega (arith, put-field, owner-32 b table m i z (from_top (Here m i) 1) (under_in (F b table m i z)) put_word put-refers (entry-refers b table m i z 1 (omega (arith, put-deep))))

    put-moves : move_of (program_of b) (state_from m) i (Here m i) (M b table m i z) fails (Put c f h)
        ≡ went_on
        (record {
          threads = tab 8 (thread_from m.frames);
          counts = m.counts;
          objects = m.objects;
          classes = m.classes;
          fields = set (tab 128 (slot_from m.fields)) (object_in (under_in (F b table m i z)) * 4 + f) (slot_of (top_in (F b table m i z)));
          held = m.held;
        })
        i (Here m i).at (popped 2 (Here m i))
    put-moves =
        let n : is_null (from_top (Here m i) 1) ≡ false = ap is_null put_word ∙ null-high (under_in (F b table m i z)) ∙ g in
        rw (n, ← owner-object b table m i z (from_top (Here m i) 1) (under_in (F b table m i z)) put_word put-refers, put-value)

  pub put-turned : (r : ℕ) (m' : Memory)
      → acted r m' ≡ put_in m i (M b table m i z).vars f h.0 (address_in (F b table m i z) + 1) → Turned b m m' r i fails
  unfolding put_in
  put-turned r m' e = subst Q (sym e) (either Q (leb 4294967552 (under_in (F b table m i z))) _ _ throws writes)
    where
      Q : Acted → Type 0
      Q x = Turned b m x.after x.answer i fails

      throws : leb 4294967552 (under_in (F b table m i z)) ≡ true
          → Turned b m (framed m i (thrown_in (F b table m i z) (M b table m i z).vars h.0 4294967296)) (cond (eqb h.0 0) 2 0) i fails
      throws g =
          let n : is_null (from_top (Here m i) 1) ≡ true = ap is_null put_word ∙ null-high (under_in (F b table m i z)) ∙ g in
          let k : move_of (program_of b) (state_from m) i (Here m i) (M b table m i z) fails (Put c f h) ≡ throw_move (state_from m) i (Here m i) (M b table m i z).vars h (slot_of 4294967296) =
          rw n (ap (throw_move (state_from m) i (Here m i) (M b table m i z).vars h) (sym (word-object 0 (omega arith)))) in
          threw b table m i z fails (Put c f h) q refl h 4294967296 (listed b table m i z fails (Put c f h) q).2 k

      writes : leb 4294967552 (under_in (F b table m i z)) ≡ false
          → Turned b m
          (memory (set m.frames i (went_in (dropped_in 2 (F b table m i z)) (address_in (F b table m i z) + 1))) m.counts m.held m.objects m.classes
          (set m.fields (object_in (under_in (F b table m i z)) * 4 + f) (top_in (F b table m i z))))
          0 i fails
      writes g =
          let k = on b table m i z _ _ (dropped-is (F b table m i z) (frame_16 b table m i z) (depth-16 b table m i z) 2 put-deep) in
          goes b table m i z fails (Put c f h) q refl _ 0 (resized b table m i z _ _ (sized-field m.frames m.fields _ _ z.running.sized) _ k)
          (put-moves g
          ∙ ap (λ (ts : List Thread). record {
            answer = 0;
            state = record {
              threads = ts;
              counts = m.counts;
              objects = m.objects;
              classes = m.classes;
              fields = set (tab 128 (slot_from m.fields)) (object_in (under_in (F b table m i z)) * 4 + f) (slot_of (top_in (F b table m i z)));
              held = m.held;
            };
          })
          (sym (rethreaded b table m i z _ _ k))
          ∙ ap (λ (fs : List Slot). record {
            answer = 0;
            state = record {
              threads = tab 8 (thread_from (set m.frames i (went_in (dropped_in 2 (F b table m i z)) (address_in (F b table m i z) + 1))));
              counts = m.counts;
              objects = m.objects;
              classes = m.classes;
              fields = fs;
              held = m.held;
            };
          })
          (sym (fields-set m.fields (object_in (under_in (F b table m i z)) * 4 + f) (top_in (F b table m i z)) z.running.sized.fields_128 (put-known g))))
