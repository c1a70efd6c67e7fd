-- inc, pop, push0, load, store and if: no count moves and no thread ends. Under its rule each goes on, and keeps the invariant.
use Prim.Native.Nat.{ℕ, ◌+◌, ◌≤◌, ◌<◌}
use mathlib.Core.Path.{◌≡◌, refl, ◌∙◌}
use mathlib.Core.Bool.{Bool, true, false}
use native.Mathlib.Omega.{arith}
use lib.Dec.{leb}
use borrow.Author.Tests.{leb-true, le-leb, lt-ltb}
use Rattle.ground.proofs.Bools.{and-fst, and-snd}
use Rattle.ground.proofs.Chain.{went_on_lem}
use Rattle.instructions.specs.declared.Var.{Var}
use Rattle.instructions.specs.declared.Addr.{Addr}
use Rattle.bundle.specs.Program.{Address}
use Rattle.entries.specs.Entries.{Int, no_end, end_of, is_int, is_reference}
use Rattle.entries.specs.Fits.{may_go}
use Rattle.rows.specs.Rows.{Row}
use Rattle.rows.specs.Typed.{Typed}
use Rattle.matching.specs.Matching.{wants, wants_loaded, edge}
use Rattle.matching.specs.Matching as rows
use Rattle.rules.specs.Rule.{rule_holds}
use Rattle.rules.specs.Rules.{inc_rule, pop_rule, push0_rule, load_rule, store_rule, if_rule}
use Rattle.values.specs.declared.Slot.{Slot}
use Rattle.values.specs.Values.{zero_slot, inc_slot, jumps}
use Rattle.threads.specs.declared.Thread.{Thread}
use Rattle.threads.specs.Threads.{top_of, var_of, topped, pushed, popped, stored}
use Rattle.state.specs.declared.State.{State}
use Rattle.state.specs.State.{thread_at, count_of, class_of}
use Rattle.turns.specs.Faults.{top_fault, int_fault, push_fault}
use Rattle.turns.specs.Moves.{went_to, went_on, inc_move, pop_move, push0_move, load_move, store_move, if_move}
use Rattle.machine.proofs.Refusals.{either}
use Rattle.soundness.specs.Balance.{Stands}
use Rattle.soundness.specs.Invariant.{Inv}
use Rattle.rules.proofs.Held.{Fits, held}
use Rattle.soundness.proofs.Kind.{int-value, int-inc}
use Rattle.soundness.proofs.Weights.{goes_end, int-goes, plain-pair}
use Rattle.soundness.proofs.Values.{pushed-is}
use Rattle.soundness.proofs.Accepted.{Accepted}
use Rattle.soundness.proofs.Stands.{variable-kind, entry-kind, pop-stands, push-stands, top-stands, store-stands, split-stands, fits-split, fits-plain}
use Rattle.soundness.proofs.Moves.{Good, Fine}
use Rattle.soundness.proofs.Goes.{v16, d16, at_here, has_room, goes_to}

module _ (P : Typed) (A : Accepted P) (s : State) (inv : Inv P s) (i : ℕ) (li : i < 8) (lv : (thread_at s i).live ≡ true) where
  abbrev T : Thread
  T = thread_at s i

  abbrev vars : ℕ
  vars = (P.program.method (thread_at s i).class).vars

  abbrev limit : ℕ
  limit = (P.program.method (thread_at s i).class).limit

  abbrev here : Row
  here = P.row (thread_at s i).class (thread_at s i).at.0

  abbrev next : Row
  next = P.row (thread_at s i).class ((thread_at s i).at.0 + 1)

  abbrev Next : Type 0
  Next = Address P.program (thread_at s i).class ((thread_at s i).at.0 + 1)

  abbrev cls : ℕ → ℕ
  cls = class_of s

  abbrev cnt : ℕ → ℕ
  cnt = count_of s.counts i

  st : Stands vars s.objects cls cnt here T
  st = at_here P A s inv i li lv

  w16 : vars ≤ 16
  w16 = v16 P A s inv i li lv

  e16 : T.depth ≤ 16
  e16 = d16 P A s inv i li lv

  -- the stack has its top, and that is an integer
  has-top : 1 ≤ here.depth → top_fault T ≡ 0
  has-top en = went_on_lem _ _ (le-leb 1 T.depth (omega (arith, st.depth_exact)))

  has-int : 1 ≤ here.depth → is_int (here.stack 0) ≡ true → int_fault T ≡ 0
  has-int en e =
      went_on_lem _ _ (le-leb 1 T.depth (omega (arith, st.depth_exact)))
      ∙ went_on_lem _ _ (int-value s.objects cls (here.stack 0) (top_of T).value e (entry-kind vars w16 s.objects cls cnt here T e16 st 0 (omega (arith, st.depth_exact))))

  pub inc-fine : Next → rule_holds vars (inc_rule here next) ≡ true → Fine P s i (int_fault T) 0 (inc_move s i T)
  unfolding inc_rule topped
  inc-fine ad e =
      let r = held vars (inc_rule here next) e in
      let en : 1 ≤ here.depth = leb-true _ _ (and-fst (leb 1 here.depth) (is_int (here.stack 0)) r.0) in
      let it : is_int (here.stack 0) ≡ true = and-snd (leb 1 here.depth) (is_int (here.stack 0)) r.0 in
      record {
        no_fault = has-int en it;
        good = λ _. goes_to P A s inv i li lv (topped T (inc_slot (top_of T))) _ (T.at.0 + 1) ad lv refl
            (top-stands vars w16 s.objects cls cnt here T e16 st (inc_slot (top_of T)) Int en (int-goes (here.stack 0) it) refl refl (int-inc s.objects cls (here.stack 0) (top_of T).value it)) r.1.0;
      }

  -- the top goes
  pop-to : (m : ℕ) → Address P.program T.class m → 1 ≤ here.depth → no_end ≤ end_of (here.stack 0) → Fits vars (edge (rows.popped 1 here) (wants (P.row T.class m)))
      → Good P s i (went_to s i (popped 1 T) m)
  unfolding popped
  pop-to m ad en g f =
      goes_to P A s inv i li lv (popped 1 T) (rows.popped 1 here) m ad lv refl
      (pop-stands vars w16 s.objects cls cnt here T e16 st 1 en (λ j l. let q : j ≡ 0 = omega arith in rw q g)) f

  pub pop-fine : Next → rule_holds vars (pop_rule here next) ≡ true → Fine P s i (top_fault T) 0 (pop_move s i T)
  unfolding pop_rule
  pop-fine ad e =
      let r = held vars (pop_rule here next) e in
      let en : 1 ≤ here.depth = leb-true _ _ (and-fst (leb 1 here.depth) (may_go (here.stack 0)) r.0) in
      record {
        no_fault = has-top en;
        good = λ _. pop-to (T.at.0 + 1) ad en (goes_end (here.stack 0) (and-snd (leb 1 here.depth) (may_go (here.stack 0)) r.0)) r.1.0;
      }

  pub if-fine : (a : Addr) → Next → Address P.program T.class a.0 → rule_holds vars (if_rule here next (P.row T.class a.0)) ≡ true → Fine P s i (int_fault T) 0 (if_move s i T a)
  unfolding if_rule
  if-fine a ad at e =
      let r = held vars (if_rule here next (P.row T.class a.0)) e in
      let en : 1 ≤ here.depth = leb-true _ _ (and-fst (leb 1 here.depth) (is_int (here.stack 0)) r.0) in
      let it : is_int (here.stack 0) ≡ true = and-snd (leb 1 here.depth) (is_int (here.stack 0)) r.0 in
      record {
        no_fault = has-int en it;
        good = λ _. either (Good P s i) (jumps (top_of T)) _ _
            (λ _. pop-to a.0 at en (int-goes (here.stack 0) it) r.1.1.0)
            (λ _. pop-to (T.at.0 + 1) ad en (int-goes (here.stack 0) it) r.1.0);
      }

  -- a value comes on top, and the thread stands at x
  push-to : (u : Slot) (x : Row) → Next → x.depth ≡ here.depth + 1 → (T.depth < 16 → Stands vars s.objects cls cnt x (pushed T u)) → Fits vars (edge x (wants next))
      → Fine P s i (push_fault T limit) 0 (went_on s i T.at (pushed T u))
  push-to u x ad d g f =
      let l : T.depth < limit = has_room P A s inv i li lv (T.at.0 + 1) ad (omega (arith, d, f.depths, st.depth_exact)) in
      let b : T.depth < 16 = omega (arith, A.formed.limit_16 T.class ad.class_known) in
      record {
        no_fault = went_on_lem _ _ (lt-ltb T.depth limit l);
        good = λ _. goes_to P A s inv i li lv (pushed T u) x (T.at.0 + 1) ad (rw (pushed-is T u b) lv) (rw (pushed-is T u b)) (g b) f;
      }

  pub push0-fine : Next → rule_holds vars (push0_rule here next) ≡ true → Fine P s i (push_fault T limit) 0 (push0_move s i T)
  unfolding push0_rule
  push0-fine ad e =
      push-to zero_slot (rows.pushed Int here) ad refl (λ b. push-stands vars w16 s.objects cls cnt here T e16 st zero_slot Int b refl refl tt)
      (held vars (push0_rule here next) e).1.0

  pub load-fine : (v : Var) → v.0 < vars → Next → rule_holds vars (load_rule v.0 here next) ≡ true → Fine P s i (push_fault T limit) 0 (load_move s i T v)
  unfolding load_rule
  load-fine v l ad e = go (is_reference (here.variable v.0)) refl
    where
      f : Fits vars (edge (rows.pushed (here.variable v.0) here) (wants_loaded v.0 here next))
      f = (held vars (load_rule v.0 here next) e).1.0

      go : (b : Bool) → is_reference (here.variable v.0) ≡ b → Fine P s i (push_fault T limit) 0 (load_move s i T v)
      go true q =
          let p = fits-split vars v.0 here next l q f in
          push-to (var_of T v.0) (rows.pushed (next.stack 0) (rows.stored v.0 (next.variable v.0) here)) ad refl
          (λ b. split-stands vars w16 s.objects cls cnt here T e16 st v.0 (next.variable v.0) (next.stack 0) l b p.0) p.1
      go false q =
          let p = plain-pair (here.variable v.0) q in
          push-to (var_of T v.0) (rows.pushed (here.variable v.0) here) ad refl
          (λ b. push-stands vars w16 s.objects cls cnt here T e16 st (var_of T v.0) (here.variable v.0) b p.0 p.1 (variable-kind vars w16 s.objects cls cnt here T e16 st v.0 l)) (fits-plain vars v.0 here next l q f)

  pub store-fine : (v : Var) → v.0 < vars → Next → rule_holds vars (store_rule v.0 here next) ≡ true → Fine P s i (top_fault T) 0 (store_move s i T v)
  unfolding store_rule popped stored
  store-fine v l ad e =
      let r = held vars (store_rule v.0 here next) e in
      let en : 1 ≤ here.depth = leb-true _ _ (and-fst (leb 1 here.depth) (may_go (here.variable v.0)) r.0) in
      record {
        no_fault = has-top en;
        good = λ _. goes_to P A s inv i li lv (popped 1 (stored T v.0 (top_of T))) _ (T.at.0 + 1) ad lv refl
            (store-stands vars w16 s.objects cls cnt here T e16 st v.0 l en (goes_end (here.variable v.0) (and-snd (leb 1 here.depth) (may_go (here.variable v.0)) r.0))) r.1.0;
      }
