-- new: one object more, of weight (0,0) on the stack; or it fails, and throws.
use Prim.Native.Nat.{ℕ, ◌+◌, ◌≤◌, ◌<◌}
use mathlib.Core.Path.{◌≡◌, refl}
use mathlib.Core.Bool.{Bool, true}
use mathlib.Core.List.{List}
use native.Mathlib.Omega.{arith}
use lib.Dec.{leb}
use lib.Seq.{get_or-set_same, get_or-set_other}
use borrow.Author.Tests.{leb-false, lt-ltb}
use Rattle.ground.proofs.Bools.{or-false-snd}
use Rattle.ground.proofs.Chain.{went_on_lem}
use Rattle.instructions.specs.declared.Addr.{Addr}
use Rattle.bundle.specs.Program.{Address}
use Rattle.entries.specs.Entries.{Ref, no_end}
use Rattle.rows.specs.Rows.{Row}
use Rattle.rows.specs.Typed.{Typed}
use Rattle.matching.specs.Matching.{wants, edge}
use Rattle.matching.specs.Matching as rows
use Rattle.rules.specs.Rule.{rule_holds}
use Rattle.rules.specs.Rules.{new_rule}
use Rattle.values.specs.declared.Slot.{Slot}
use Rattle.values.specs.Values.{ref_slot}
use Rattle.threads.specs.declared.Thread.{Thread}
use Rattle.threads.specs.Threads.{with_at, pushed}
use Rattle.state.specs.declared.State.{State}
use Rattle.state.specs.State.{thread_at, count_of, class_of}
use Rattle.turns.specs.Faults.{push_fault, new_fails, new_fault}
use Rattle.turns.specs.Moves.{first_fields, make_move, new_move}
use Rattle.machine.proofs.Changes.{grown}
use Rattle.soundness.specs.Balance.{Stands}
use Rattle.soundness.specs.Invariant.{Live, Inv}
use Rattle.rules.proofs.Held.{Fits, held}
use Rattle.soundness.proofs.Values.{pushed-is}
use Rattle.soundness.proofs.Accepted.{Accepted}
use Rattle.soundness.proofs.Stands.{push-stands, fit-stands}
use Rattle.soundness.proofs.Moves.{others, standing-more, live-standing, thread-moves, object-grows, grown-is, Good, went, Fine, branches}
use Rattle.soundness.proofs.Goes.{arrives, v16, d16, at_here, has_room}
use Rattle.soundness.proofs.Ends.{failed-fine}

module _ (P : Typed) (A : Accepted P) (s : State) (inv : Inv P s) (i : ℕ) (li : i < 8) (lv : (thread_at s i).live ≡ true) where
  abbrev T : Thread
  T = thread_at s i

  abbrev vars : ℕ
  vars = (P.program.method (thread_at s i).class).vars

  abbrev limit : ℕ
  limit = (P.program.method (thread_at s i).class).limit

  abbrev here : Row
  here = P.row (thread_at s i).class (thread_at s i).at.0

  abbrev next : Row
  next = P.row (thread_at s i).class ((thread_at s i).at.0 + 1)

  abbrev Next : Type 0
  Next = Address P.program (thread_at s i).class ((thread_at s i).at.0 + 1)

  abbrev cls : ℕ → ℕ
  cls = class_of s

  abbrev cnt : ℕ → ℕ
  cnt = count_of s.counts i

  st : Stands vars s.objects cls cnt here T
  st = at_here P A s inv i li lv

  w16 : vars ≤ 16
  w16 = v16 P A s inv i li lv

  e16 : T.depth ≤ 16
  e16 = d16 P A s inv i li lv

  make-fine : (c : ℕ) → c < P.program.classes → s.objects < 32 → Next → Fits vars (edge (rows.pushed (Ref c 0 no_end) here) (wants next)) → Fine P s i (push_fault T limit) 0 (make_move P.program s i T c)
  make-fine c lc lo ad f =
      record { no_fault = went_on_lem _ _ (lt-ltb T.depth limit room); good = λ _. moved }
    where
      first : List Slot
      first = first_fields (P.program.method c)

      made : Slot
      made = ref_slot s.objects

      room : T.depth < limit
      room = has_room P A s inv i li lv (T.at.0 + 1) ad (omega (arith, f.depths, st.depth_exact))

      below : T.depth < 16
      below = omega (arith, room, A.formed.limit_16 T.class ad.class_known)

      more : Live P (s.objects + 1) (class_of (grown s c first)) cnt T
      more =
          (standing-more P s.objects cls cnt (s.objects + 1) (class_of (grown s c first)) cnt T (omega arith)
          (λ o k. get_or-set_other s.classes s.objects o c 0 (omega arith)) (λ o _. refl) (inv.thread i li)).live lv

      moved : Good P s i (make_move P.program s i T c)
      moved =
          rw (grown-is s c first lo)
          (went P s i _
          (thread-moves P (grown s c first) i li (object-grows P s i li (others P s inv i) A c lc lo) _
          (live-standing P (s.objects + 1) (class_of (grown s c first)) cnt (with_at (pushed T made) (T.at.0 + 1))
          (arrives P (s.objects + 1) (class_of (grown s c first)) cnt (pushed T made) T.class (T.at.0 + 1) (rw (pushed-is T made below) lv) (rw (pushed-is T made below)) ad
          (fit-stands vars w16 (s.objects + 1) (class_of (grown s c first)) cnt (rows.pushed (Ref c 0 no_end) here) next (pushed T made) f
          (push-stands vars w16 (s.objects + 1) (class_of (grown s c first)) cnt here T e16 more.stands made (Ref c 0 no_end) below refl refl
          (omega arith, get_or-set_same s.classes s.objects c 0 (omega (arith, inv.whole.classes_32)))))))))

  pub new-fine : (c : ℕ) (h : Addr) (fails : Bool) → c < P.program.classes → h.0 ≤ (P.program.method T.class).code → Next
      → rule_holds vars (new_rule vars P.program.exception c h.0 here next (P.row T.class h.0)) ≡ true → Fine P s i (new_fault s i T limit h fails) 0 (new_move P.program s i T vars c h fails)
  unfolding new_rule
  new-fine c h fails lc lh ad e =
      let r = held vars (new_rule vars P.program.exception c h.0 here next (P.row T.class h.0)) e in
      branches P s i (new_fails s fails) _ _ (λ _. 0) _ _
      (λ _. failed-fine P A s inv i li lv h lh r.0 r.1.1)
      (λ q. make-fine c lc (leb-false 32 s.objects (or-false-snd fails (leb 32 s.objects) q)) ad r.1.0)
