-- getfield and putfield: what a field holds comes on the stack with no weight, and what goes into it had none; a null owner throws.
use Prim.Native.Nat.{ℕ, zero, suc, ◌+◌, ◌≤◌, ◌<◌}
use mathlib.Core.Path.{◌≡◌, refl, ◌∙◌}
use mathlib.Core.List.{◌∷◌}
use mathlib.Core.Bool.{true, false, ◌&&◌, ◌||◌}
use native.Mathlib.Omega.{arith}
use lib.Dec.{leb}
use borrow.Author.Tests.{leb-true, le-leb}
use Rattle.ground.proofs.Bools.{and-fst, and-snd}
use Rattle.ground.proofs.Chain.{went_on_lem}
use Rattle.instructions.specs.declared.Addr.{Addr}
use Rattle.bundle.specs.Program.{Address}
use Rattle.entries.specs.Entries.{Ref, no_end, end_of, is_reference, is_nullable, may_be_of, field_entry, matches_field}
use Rattle.entries.specs.Fits.{may_go}
use Rattle.rows.specs.Rows.{Row}
use Rattle.rows.specs.Typed.{Typed}
use Rattle.matching.specs.Matching.{wants, edge}
use Rattle.matching.specs.Matching as rows
use Rattle.rules.specs.Rule.{rule_holds}
use Rattle.rules.specs.Rules.{null_goes, null_thrown, owner_goes, get_rule, put_rule}
use Rattle.values.specs.declared.Slot.{Slot}
use Rattle.values.specs.Values.{is_null, object_of}
use Rattle.threads.specs.declared.Thread.{Thread}
use Rattle.threads.specs.Threads.{from_top, top_of, with_at, topped, popped}
use Rattle.state.specs.declared.State.{State}
use Rattle.state.specs.State.{thread_at, count_of, class_of, field_of, with_field}
use Rattle.turns.specs.Faults.{throw_fault, may_be_object, get_fault, put_fault}
use Rattle.turns.specs.Moves.{went_on, fail_move, get_move, put_move}
use Rattle.soundness.specs.Balance.{Matches, Stands}
use Rattle.soundness.specs.Invariant.{Inv}
use Rattle.rules.proofs.Held.{AllFit, held}
use Rattle.soundness.proofs.Kind.{nullable-value, not_null, ref_value, field-kind, may-be-object-is, field-value-is}
use Rattle.soundness.proofs.Weights.{goes_end}
use Rattle.soundness.proofs.FieldPlaces.{field-pair}
use Rattle.soundness.proofs.Accepted.{Accepted}
use Rattle.soundness.proofs.Stands.{entry-kind, pop-stands, top-stands, fit-stands}
use Rattle.soundness.proofs.Moves.{others, live-standing, thread-moves, field-moves, Good, went, Fine, branches}
use Rattle.soundness.proofs.Goes.{arrives, v16, d16, at_here, goes_to}
use Rattle.soundness.proofs.Ends.{null-fine}

module _ (P : Typed) (A : Accepted P) (s : State) (inv : Inv P s) (i : ℕ) (li : i < 8) (lv : (thread_at s i).live ≡ true) (c f : ℕ) (h : Addr) (lf : f < (P.program.method c).fields) (lh : h.0 ≤ (P.program.method (thread_at s i).class).code) where
  abbrev T : Thread
  T = thread_at s i

  abbrev vars : ℕ
  vars = (P.program.method (thread_at s i).class).vars

  abbrev limit : ℕ
  limit = (P.program.method (thread_at s i).class).limit

  abbrev here : Row
  here = P.row (thread_at s i).class (thread_at s i).at.0

  abbrev next : Row
  next = P.row (thread_at s i).class ((thread_at s i).at.0 + 1)

  abbrev caught : Row
  caught = P.row (thread_at s i).class h.0

  abbrev Next : Type 0
  Next = Address P.program (thread_at s i).class ((thread_at s i).at.0 + 1)

  abbrev cls : ℕ → ℕ
  cls = class_of s

  abbrev cnt : ℕ → ℕ
  cnt = count_of s.counts i

  abbrev descriptor : ℕ
  descriptor = (P.program.method c).field f

  abbrev exception : ℕ
  exception = P.program.exception

  st : Stands vars s.objects cls cnt here T
  st = at_here P A s inv i li lv

  w16 : vars ≤ 16
  w16 = v16 P A s inv i li lv

  e16 : T.depth ≤ 16
  e16 = d16 P A s inv i li lv

  kind : (j : ℕ) → j < here.depth → Matches s.objects cls (here.stack j) (from_top T j).value
  kind j l = entry-kind vars w16 s.objects cls cnt here T e16 st j (omega (arith, st.depth_exact))

  -- stack entry j is the owner
  module _ (j : ℕ) (l : j < here.depth) (o : owner_goes c (here.stack j) ≡ true) where
    owner-may : may_be_of c (here.stack j) ≡ true
    unfolding owner_goes
    owner-may = and-fst (may_be_of c (here.stack j)) (may_go (here.stack j)) o

    owner-end : no_end ≤ end_of (here.stack j)
    unfolding owner_goes
    owner-end = goes_end (here.stack j) (and-snd (may_be_of c (here.stack j)) (may_go (here.stack j)) o)

    owner-ok : may_be_object s.classes c (from_top T j) ≡ true
    owner-ok = may-be-object-is s.objects s.classes c (here.stack j) (from_top T j) owner-may (kind j l)

    -- where it isn't null, it is an object of class c
    owned : is_null (from_top T j) ≡ false → (object_of (from_top T j) < s.objects) × (cls (object_of (from_top T j)) ≡ c)
    owned n =
        let r = ref_value s.objects cls (Ref c 0 no_end) (from_top T j).value refl
        (not_null s.objects cls c (from_top T j).value n (nullable-value s.objects cls c (here.stack j) (from_top T j).value owner-may (kind j l))) in
        (r.1, r.2)

    -- where it is null, object 0 is thrown
    null-throws : null_goes vars exception h.0 (here.stack j) here ≡ true → AllFit vars (null_thrown exception h.0 (here.stack j) here caught) → is_null (from_top T j) ≡ true
        → Fine P s i (throw_fault s.counts i limit h) 0 (fail_move s i T vars h)
    null-throws g t n =
        null-fine P A s inv i li lv h (here.stack j) (from_top T j) lh (and-fst (is_reference (here.stack j) || is_nullable (here.stack j)) _ owner-may) (kind j l) n g t

  pub get-fine : Next → rule_holds vars (get_rule vars exception c descriptor h.0 here next caught) ≡ true → Fine P s i (get_fault s i T c limit h) 0 (get_move s i T vars f h)
  unfolding get_rule topped
  get-fine ad e =
      let x = branches P s i (is_null (top_of T)) _ _ (λ _. 0) _ _ (null-throws 0 en og ng r.1.1) (λ q. record { no_fault = refl; good = λ _. got q }) in
      record {
        no_fault = went_on_lem _ _ (le-leb 1 T.depth (omega (arith, st.depth_exact, en))) ∙ went_on_lem _ _ (owner-ok 0 en og) ∙ x.no_fault;
        good = x.good;
      }
    where
      r : ((leb 1 here.depth && owner_goes c (here.stack 0) && null_goes vars exception h.0 (here.stack 0) here) ≡ true)
          × AllFit vars (edge (rows.pushed (field_entry descriptor) (rows.popped 1 here)) (wants next) ∷ null_thrown exception h.0 (here.stack 0) here caught)
      r = held vars (get_rule vars exception c descriptor h.0 here next caught) e

      a : (leb 1 here.depth && owner_goes c (here.stack 0) && null_goes vars exception h.0 (here.stack 0) here) ≡ true
      a = r.0

      en : 1 ≤ here.depth
      en = leb-true _ _ (search (and-fst, and-snd, a))

      og : owner_goes c (here.stack 0) ≡ true
      og = search (and-fst, and-snd, a)

      ng : null_goes vars exception h.0 (here.stack 0) here ≡ true
      ng = search (and-fst, and-snd, a)

      u : Slot
      u = field_of s.fields (object_of (top_of T)) f

      held-kind : is_null (top_of T) ≡ false → Matches s.objects cls (field_entry descriptor) u.value
      held-kind q =
          let o = owned 0 en og q in
          rw o.1 at (inv.whole.field_holds (object_of (top_of T)) f o.0 (rw o.1 lf))

      got : is_null (top_of T) ≡ false → Good P s i (went_on s i T.at (topped T u))
      got q =
          goes_to P A s inv i li lv (topped T u) (rows.pushed (field_entry descriptor) (rows.popped 1 here)) (T.at.0 + 1) ad lv refl
          (top-stands vars w16 s.objects cls cnt here T e16 st u (field_entry descriptor) en (owner-end 0 en og) (field-pair descriptor).0 (field-pair descriptor).1 (λ _. held-kind q)) r.1.0

  pub put-fine : Next → rule_holds vars (put_rule vars exception c descriptor h.0 here next caught) ≡ true → Fine P s i (put_fault s i T c descriptor limit h) 0 (put_move s i T vars f h)
  unfolding put_rule popped
  put-fine ad e =
      let x = branches P s i (is_null (from_top T 1)) _ _ (λ _. 0) _ _ (null-throws 1 en og ng r.1.1) (λ q. record { no_fault = refl; good = λ _. put q }) in
      record {
        no_fault =
            went_on_lem _ _ (le-leb 2 T.depth (omega (arith, st.depth_exact, en)))
            ∙ went_on_lem _ _ (rw (field-value-is s.objects s.classes descriptor (here.stack 0) (top_of T) fit (kind 0 (omega (arith, en)))) (owner-ok 1 en og))
            ∙ x.no_fault;
        good = x.good;
      }
    where
      r : ((leb 2 here.depth && (matches_field descriptor (here.stack 0) && may_go (here.stack 0)) && owner_goes c (here.stack 1) && null_goes vars exception h.0 (here.stack 1) here) ≡ true)
          × AllFit vars (edge (rows.popped 2 here) (wants next) ∷ null_thrown exception h.0 (here.stack 1) here caught)
      r = held vars (put_rule vars exception c descriptor h.0 here next caught) e

      a : (leb 2 here.depth && (matches_field descriptor (here.stack 0) && may_go (here.stack 0)) && owner_goes c (here.stack 1) && null_goes vars exception h.0 (here.stack 1) here) ≡ true
      a = r.0

      en : 2 ≤ here.depth
      en = leb-true _ _ (search (and-fst, and-snd, a))

      fit : matches_field descriptor (here.stack 0) ≡ true
      fit = search (and-fst, and-snd, a)

      go : may_go (here.stack 0) ≡ true
      go = search (and-fst, and-snd, a)

      og : owner_goes c (here.stack 1) ≡ true
      og = search (and-fst, and-snd, a)

      ng : null_goes vars exception h.0 (here.stack 1) here ≡ true
      ng = search (and-fst, and-snd, a)

      ends : (j : ℕ) → j < 2 → no_end ≤ end_of (here.stack j)
      ends zero l = goes_end (here.stack 0) go
      ends (suc zero) l = owner-end 1 en og
      ends (suc (suc j)) l = absurd (omega arith)

      put : is_null (from_top T 1) ≡ false → Good P s i (went_on (with_field s (object_of (from_top T 1)) f (top_of T)) i T.at (popped 2 T))
      put q =
          let o = owned 1 en og q in
          went P s i _
          (thread-moves P (with_field s (object_of (from_top T 1)) f (top_of T)) i li
          (field-moves P s i li (others P s inv i) A (object_of (from_top T 1)) f (top_of T) o.0 (rw o.1 lf)
          (rw o.1 (field-kind s.objects cls descriptor (here.stack 0) (top_of T).value fit (kind 0 (omega (arith, en)))))) _
          (live-standing P s.objects cls cnt (with_at (popped 2 T) (T.at.0 + 1))
          (arrives P s.objects cls cnt (popped 2 T) T.class (T.at.0 + 1) lv refl ad
          (fit-stands vars w16 s.objects cls cnt (rows.popped 2 here) next (popped 2 T) r.1.0
          (pop-stands vars w16 s.objects cls cnt here T e16 st 2 en ends)))))
