-- start: the starter gives up its arguments and the object, and a thread is born with them.
use Prim.Native.Nat.{ℕ, ◌+◌, ◌≤◌, ◌<◌}
use mathlib.Core.Path.{◌≡◌, refl, ◌∙◌}
use mathlib.Core.List.{List}
use mathlib.Core.Bool.{Bool, true, false, cond, ◌&&◌}
use native.Mathlib.Omega.{arith}
use native.Mathlib.Decide.{ℕ_discrete}
use lib.Dec.{leb, eqb}
use lib.ListN.{get_or, replicate, length-replicate}
use borrow.Author.Tests.{not-true, leb-true, le-leb, ltb-true}
use Rattle.ground.specs.Bounded.{set_below}
use Rattle.ground.proofs.Bools.{and-fst, and-snd}
use Rattle.ground.proofs.Bounded.{all-elim, all-intro, first-is}
use Rattle.ground.proofs.Chain.{went_on_lem, tested}
use Rattle.ground.proofs.Writes.{set-length}
use Rattle.bundle.specs.Program.{Address}
use Rattle.entries.specs.Entries.{Entry, is_int, is_of, matches}
use Rattle.entries.specs.Fits.{may_go}
use Rattle.rows.specs.Rows.{Row}
use Rattle.rows.specs.Typed.{Typed}
use Rattle.matching.specs.Matching.{wants, edge}
use Rattle.matching.specs.Matching as rows
use Rattle.rules.specs.Rule.{rule_holds}
use Rattle.rules.specs.Rules.{argument_goes, arguments_go, object_goes, start_rule}
use Rattle.values.specs.declared.Slot.{Slot}
use Rattle.values.specs.Values.{zero_slot}
use Rattle.values.specs.Values as values
use Rattle.threads.specs.declared.Thread.{Thread}
use Rattle.threads.specs.Threads.{from_top, with_at, popped, started}
use Rattle.state.specs.declared.State.{State}
use Rattle.state.specs.State.{thread_at, count_of, class_of, with_thread, not_live, lowest_free}
use Rattle.turns.specs.Faults.{is_object, is_argument, argument_at, arguments_ok, start_fault}
use Rattle.turns.specs.Waits.{start_wait}
use Rattle.turns.specs.Moves.{started_by, start_move}
use Rattle.soundness.specs.Balance.{Matches, Stands}
use Rattle.soundness.specs.Invariant.{Live, Asleep, Inv}
use Rattle.soundness.proofs.Kind.{int-value, argument-kind, object-is}
use Rattle.rules.proofs.Held.{Fits, held}
use Rattle.soundness.proofs.Weights.{goes_end}
use Rattle.soundness.proofs.Values.{value-argument, value-zero}
use Rattle.soundness.proofs.Accepted.{Accepted}
use Rattle.soundness.proofs.Moves.{others, live-standing, thread-moves, Good, went, Fine}
use Rattle.soundness.proofs.Stands.{entry-kind, pop-stands, fit-stands}
use Rattle.soundness.proofs.Goes.{arrives, v16, d16, at_here}
use Rattle.soundness.proofs.Fresh.{born-live}

-- ---- no fault 13
argument_is : (n : ℕ) (classes : List ℕ) (d : ℕ) (e : Entry) (x : Slot) → matches d e ≡ true → Matches n (λ o. get_or classes o 0) e x.value → is_argument classes d x ≡ true
unfolding matches is_argument
argument_is n classes d e x h m = go (eqb d 255) h
  where
    go : (b : Bool) → cond b (is_int e) (is_of d e) ≡ true → cond b (values.is_int x) (is_object classes d x) ≡ true
    go true h = int-value n (λ o. get_or classes o 0) e x.value h m
    go false h = object-is n classes d e x h m

module _ (P : Typed) (A : Accepted P) (s : State) (inv : Inv P s) (i : ℕ) (li : i < 8) (lv : (thread_at s i).live ≡ true) (c : ℕ) (lc : c < P.program.classes) where
  abbrev T : Thread
  T = thread_at s i

  abbrev vars : ℕ
  vars = (P.program.method (thread_at s i).class).vars

  abbrev here : Row
  here = P.row (thread_at s i).class (thread_at s i).at.0

  abbrev next : Row
  next = P.row (thread_at s i).class ((thread_at s i).at.0 + 1)

  abbrev Next : Type 0
  Next = Address P.program (thread_at s i).class ((thread_at s i).at.0 + 1)

  abbrev cls : ℕ → ℕ
  cls = class_of s

  abbrev cnt : ℕ → ℕ
  cnt = count_of s.counts i

  st : Stands vars s.objects cls cnt here T
  st = at_here P A s inv i li lv

  w16 : vars ≤ 16
  w16 = v16 P A s inv i li lv

  e16 : T.depth ≤ 16
  e16 = d16 P A s inv i li lv

  abbrev args : ℕ
  args = (P.program.method c).args

  abbrev descriptor : ℕ → ℕ
  descriptor = (P.program.method c).descriptor

  n16 : args ≤ 16
  n16 = omega (arith, A.formed.args_vars c lc, A.formed.vars_16 c lc)

  module _ (ag : arguments_go args descriptor here ≡ true) (og : object_goes c here args ≡ true) (en : args + 1 ≤ here.depth) (f : Fits vars (edge (rows.popped (args + 1) here) (wants next))) where
    enough : args + 1 ≤ T.depth
    enough = omega (arith, st.depth_exact)

    argument-goes : (j : ℕ) → j < args → (matches (descriptor j) (here.stack j) && may_go (here.stack j)) ≡ true
    unfolding arguments_go argument_goes
    argument-goes j l = all-elim (argument_goes descriptor here) args ag j l

    kind : (j : ℕ) → j ≤ args → Matches s.objects cls (here.stack j) (from_top T j).value
    kind j l = entry-kind vars w16 s.objects cls cnt here T e16 st j (omega (arith, enough))

    all_go : (j : ℕ) → j < args + 1 → may_go (here.stack j) ≡ true
    unfolding object_goes
    all_go j l = go (ℕ_discrete j args)
      where
        go : Dec (j ≡ args) → may_go (here.stack j) ≡ true
        go (yes q) = rw q (and-snd (is_of c (here.stack args)) (may_go (here.stack args)) og)
        go (no q) = and-snd (matches (descriptor j) (here.stack j)) (may_go (here.stack j)) (argument-goes j (omega arith))

    arguments-ok : arguments_ok s.classes T args descriptor c ≡ true
    unfolding arguments_ok object_goes
    arguments-ok =
        rw (all-intro (argument_at s.classes T descriptor) args
        (λ j l. argument_is s.objects s.classes (descriptor j) (here.stack j) (from_top T j)
        (and-fst (matches (descriptor j) (here.stack j)) (may_go (here.stack j)) (argument-goes j l)) (kind j (omega arith))))
        (object-is s.objects s.classes c (here.stack args) (from_top T args) (and-fst (is_of c (here.stack args)) (may_go (here.stack args)) og) (kind args (omega arith)))

    -- the new thread
    started-live : (j : ℕ) → Asleep (count_of s.counts j) (thread_at s j)
        → Live P s.objects cls (count_of s.counts j) (started (thread_at s j) T c args)
    unfolding started
    started-live j a =
        born-live P A s.objects cls (count_of s.counts j) c lc (set_below args (from_top T) (replicate 16 zero_slot)) (thread_at s j).stack
        (set-length (from_top T) (replicate 16 zero_slot) args ∙ length-replicate 16 zero_slot) a.sized.stack a.free
        (λ p l. rw (value-argument args p (from_top T) (thread_at s j).stack l n16)
        (argument-kind s.objects cls (descriptor p) (here.stack p) (from_top T p).value
        (and-fst (matches (descriptor p) (here.stack p)) (may_go (here.stack p)) (argument-goes p l)) (kind p (omega arith))))
        (λ p l b. value-zero args p (from_top T) (thread_at s j).stack l b)

    -- the starter goes on
    starts : Next → (j : ℕ) → j < 8 → (thread_at s j).live ≡ false → Good P s i (started_by s i T args c j)
    unfolding popped
    starts ad j lj d =
        let u : Thread = started (thread_at s j) T c args in
        let one : Inv P (with_thread s j u) =
        thread-moves P s j lj (others P s inv j) u
        (live-standing P s.objects cls (count_of s.counts j) u (started-live j ((inv.thread j lj).asleep d))) in
        went P s i _
        (thread-moves P (with_thread s j u) i li (others P (with_thread s j u) one i) _
        (live-standing P s.objects cls cnt (with_at (popped (args + 1) T) (T.at.0 + 1))
        (arrives P s.objects cls cnt (popped (args + 1) T) T.class (T.at.0 + 1) lv refl ad
        (fit-stands vars w16 s.objects cls cnt (rows.popped (args + 1) here) next (popped (args + 1) T) f
        (pop-stands vars w16 s.objects cls cnt here T e16 st (args + 1) en (λ k l. goes_end (here.stack k) (all_go k l)))))))

  free-is : lowest_free s < 8 → (thread_at s (lowest_free s)).live ≡ false
  unfolding lowest_free
  free-is l = not-true _ (first-is 8 (not_live s) l)

  pub start_fine : Next → rule_holds vars (start_rule args descriptor c here next) ≡ true
      → Fine P s i (start_fault s.classes T args descriptor c) (start_wait s) (start_move s i T args c)
  unfolding start_rule
  start_fine ad e =
      let r = held vars (start_rule args descriptor c here next) e in
      let a : (leb (args + 1) here.depth && arguments_go args descriptor here && object_goes c here args) ≡ true = r.0 in
      let en : args + 1 ≤ here.depth = leb-true _ _ (search (and-fst, and-snd)) in
      let ag : arguments_go args descriptor here ≡ true = search (and-fst, and-snd) in
      let og : object_goes c here args ≡ true = search (and-fst, and-snd) in
      record {
        no_fault = went_on_lem _ _ (le-leb (args + 1) T.depth (enough ag og en r.1.0)) ∙ went_on_lem _ _ (arguments-ok ag og en r.1.0);
        good = λ w. let l : lowest_free s < 8 = ltb-true (lowest_free s) 8 (tested _ _ _ w).0 in starts ag og en r.1.0 ad (lowest_free s) l (free-is l);
      }
