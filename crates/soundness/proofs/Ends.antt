-- return, and a throw: a thread ends only where everything may go, and then it holds nothing; a handler finds what was thrown.
use Prim.Native.Nat.{ℕ, ◌+◌, ◌-◌, ◌≤◌, ◌<◌}
use mathlib.Core.Path.{◌≡◌, refl, ◌∙◌}
use mathlib.Core.List.{[], ◌∷◌}
use mathlib.Core.Bool.{true, false, ◌&&◌, ◌||◌}
use native.Mathlib.Omega.{arith}
use native.Mathlib.Decide.{ℕ_discrete}
use lib.Dec.{leb, eqb}
use borrow.Author.Tests.{leb-true, le-leb, eqb-false, eq-eqb}
use Rattle.ground.proofs.Bools.{and-fst, and-snd}
use Rattle.ground.proofs.Bounded.{all-elim, all-intro}
use Rattle.ground.proofs.Chain.{went_on_lem}
use Rattle.ground.proofs.Writes.{fill-length}
use Rattle.instructions.specs.declared.Addr.{Addr}
use Rattle.bundle.specs.Program.{Address}
use Rattle.rows.specs.Rows.{Row}
use Rattle.rows.specs.Typed.{Typed}
use Rattle.entries.specs.Entries.{Entry, no_end, end_of, is_reference, is_nullable, is_of}
use Rattle.entries.specs.Fits.{may_go}
use Rattle.matching.specs.Matching.{emptied, wants, edge, vars_go, entry_goes, stack_goes}
use Rattle.matching.specs.Matching as rows
use Rattle.rules.specs.Rule.{rule_holds}
use Rattle.rules.specs.Rules.{uncaught_goes, thrown, made, failure_goes, failure_thrown, null_goes, null_thrown, throw_rule, return_rule}
use Rattle.values.specs.declared.Slot.{Slot}
use Rattle.values.specs.Values.{zero_slot, ref_slot, is_null}
use Rattle.threads.specs.declared.Thread.{Thread}
use Rattle.threads.specs.Threads.{top_of, popped, ended}
use Rattle.state.specs.declared.State.{State}
use Rattle.state.specs.State.{thread_at, count_of, class_of, is_free, holds_nothing}
use Rattle.turns.specs.Answers.{test}
use Rattle.turns.specs.Faults.{end_fault, throw_fault, athrow_fault}
use Rattle.turns.specs.Moves.{went_to, end_move, caught, throw_move, fail_move}
use Rattle.soundness.specs.Balance.{Matches, value_of, Stands}
use Rattle.soundness.specs.Invariant.{entry_at, Asleep, Inv}
use Rattle.soundness.proofs.Balance.{all_go}
use Rattle.soundness.proofs.Kind.{null-entry, object-is}
use Rattle.rules.proofs.Held.{AllFit, held}
use Rattle.soundness.proofs.Weights.{goes_end}
use Rattle.soundness.proofs.Slots.{all_end}
use Rattle.soundness.proofs.Values.{pushed-is}
use Rattle.soundness.proofs.Accepted.{Accepted}
use Rattle.soundness.proofs.Stands.{entry-kind, pop-stands, push-stands, throw-stands}
use Rattle.soundness.proofs.Moves.{others, asleep-standing, thread-moves, Fine, branches}
use Rattle.soundness.proofs.Goes.{v16, d16, at_here, goes_to}

module _ (P : Typed) (A : Accepted P) (s : State) (inv : Inv P s) (i : ℕ) (li : i < 8) (lv : (thread_at s i).live ≡ true) where
  abbrev T : Thread
  T = thread_at s i

  abbrev vars : ℕ
  vars = (P.program.method (thread_at s i).class).vars

  abbrev limit : ℕ
  limit = (P.program.method (thread_at s i).class).limit

  abbrev here : Row
  here = P.row (thread_at s i).class (thread_at s i).at.0

  abbrev cls : ℕ → ℕ
  cls = class_of s

  abbrev cnt : ℕ → ℕ
  cnt = count_of s.counts i

  st : Stands vars s.objects cls cnt here T
  st = at_here P A s inv i li lv

  w16 : vars ≤ 16
  w16 = v16 P A s inv i li lv

  e16 : T.depth ≤ 16
  e16 = d16 P A s inv i li lv

  free : vars_go vars here ≡ true → stack_goes here ≡ true → (o : ℕ) → o < 32 → cnt o ≡ 0
  free vg sg =
      all_go s.objects cls (entry_at P T.class T.at.0) (value_of T) cnt st.balanced
      (λ p _. all_end vars w16 here vg sg p)

  asleep : ((o : ℕ) → o < 32 → cnt o ≡ 0) → Asleep cnt (ended vars T)
  unfolding ended
  asleep f =
      record {
        sized = record {
          vars = fill-length 0 zero_slot T.vars vars ∙ st.sized.vars;
          stack = fill-length 0 zero_slot T.stack T.depth ∙ st.sized.stack;
        };
        free = f;
      }

  -- the thread ends with the answer n
  end-fine : (n : ℕ) → n ≤ 2 → vars_go vars here ≡ true → stack_goes here ≡ true → Fine P s i (end_fault s.counts i) 0 (end_move s i T vars n)
  unfolding holds_nothing ended
  end-fine n l vg sg =
      record {
        no_fault = went_on_lem _ _ (all-intro (is_free s.counts i) 32 (λ o k. eq-eqb (cnt o) 0 (free vg sg o k)));
        good = λ _. record {
          quiet = omega arith;
          inv = thread-moves P s i li (others P s inv i) (ended vars T) (asleep-standing P s.objects cls cnt (ended vars T) refl (asleep (free vg sg)));
          ends = λ _ o k. (free vg sg o k, free vg sg o k);
        };
      }

  pub return-fine : rule_holds vars (return_rule vars here) ≡ true → Fine P s i (end_fault s.counts i) 0 (end_move s i T vars 1)
  unfolding return_rule
  return-fine e =
      let a = (held vars (return_rule vars here) e).0 in
      end-fine 1 (omega arith) (and-snd (stack_goes here) (vars_go vars here) a) (and-fst (stack_goes here) (vars_go vars here) a)

  -- the entry e is thrown, as the value x: what goes uncaught, and the edge to the handler
  pub throw-fine : (h : Addr) (e : Entry) (x : Slot) → h.0 ≤ (P.program.method T.class).code
      → uncaught_goes vars h.0 e here ≡ true → (may_go e ≡ true → stack_goes here ≡ true) → AllFit vars (thrown h.0 e here (P.row T.class h.0))
      → Stands vars s.objects cls cnt (rows.pushed e (rows.popped T.depth here)) (caught T x)
      → Fine P s i (throw_fault s.counts i limit h) 0 (throw_move s i T vars h x)
  unfolding uncaught_goes thrown popped
  throw-fine h e x l a sg f w = branches P s i (eqb h.0 0) _ _ (λ _. 0) _ _ none found
    where
      none : eqb h.0 0 ≡ true → Fine P s i (end_fault s.counts i) 0 (end_move s i T vars 2)
      none q =
          let g : (may_go e && vars_go vars here) ≡ true = rw q at a in
          end-fine 2 (omega arith) (and-snd (may_go e) (vars_go vars here) g) (sg (and-fst (may_go e) (vars_go vars here) g))

      found : eqb h.0 0 ≡ false → Fine P s i (test (leb 1 limit) 12 0) 0 (went_to s i (caught T x) h.0)
      found q =
          let g : AllFit vars (edge (rows.pushed e (emptied here)) (wants (P.row T.class h.0)) ∷ []) = rw q at f in
          let ad : Address P.program T.class h.0 = record { class_known = ((inv.thread i li).live lv).address.class_known; first = omega (arith, eqb-false h.0 0 q); last = l } in
          let is = pushed-is (popped T.depth T) x (omega arith) in
          record {
            no_fault = went_on_lem _ _ (le-leb 1 limit (omega (arith, g.0.depths, A.depth_limit T.class h.0 ad)));
            good = λ _. goes_to P A s inv i li lv (caught T x) (rows.pushed e (rows.popped T.depth here)) h.0 ad (rw is lv) (rw is) w
                (record {
                  depths = omega (arith, g.0.depths, st.depth_exact);
                  variables = g.0.variables;
                  entries = λ j k. let z : j ≡ 0 = omega (arith, st.depth_exact) in rw z (g.0.entries 0 (omega arith));
                });
          }

  -- a failed new throws object 0, as (0,0) of the exception class
  pub failed-fine : (h : Addr) → h.0 ≤ (P.program.method T.class).code → failure_goes vars P.program.exception h.0 here ≡ true
      → AllFit vars (failure_thrown P.program.exception h.0 here (P.row T.class h.0)) → Fine P s i (throw_fault s.counts i limit h) 0 (fail_move s i T vars h)
  unfolding failure_goes stack_goes popped
  failed-fine h l a f =
      throw-fine h (made P.program.exception) (ref_slot 0) l (and-snd (stack_goes here) _ a) (λ _. sg) f
      (push-stands vars w16 s.objects cls cnt (rows.popped T.depth here) (popped T.depth T) (omega arith)
      (pop-stands vars w16 s.objects cls cnt here T e16 st T.depth (omega (arith, st.depth_exact)) goes)
      (ref_slot 0) (made P.program.exception) (omega arith) refl refl (inv.whole.some_object, inv.whole.first_class))
    where
      sg : stack_goes here ≡ true
      sg = and-fst (stack_goes here) (uncaught_goes vars h.0 (made P.program.exception) here) a

      goes : (j : ℕ) → j < T.depth → no_end ≤ end_of (here.stack j)
      goes j k = goes_end (here.stack j) (all-elim (entry_goes here) here.depth sg j (omega (arith, st.depth_exact)))

  -- so does null: where a reference e holds it, e may be null, and the rule has the throw
  pub null-fine : (h : Addr) (e : Entry) (x : Slot) → h.0 ≤ (P.program.method T.class).code → (is_reference e || is_nullable e) ≡ true → Matches s.objects cls e x.value → is_null x ≡ true
      → null_goes vars P.program.exception h.0 e here ≡ true → AllFit vars (null_thrown P.program.exception h.0 e here (P.row T.class h.0))
      → Fine P s i (throw_fault s.counts i limit h) 0 (fail_move s i T vars h)
  unfolding null_goes null_thrown
  null-fine h e x l k m q a f =
      let n : is_nullable e ≡ true = null-entry s.objects cls e x.value k m q in
      failed-fine h l (rw n at a) (rw n at f)

  pub athrow-fine : (h : Addr) → h.0 ≤ (P.program.method T.class).code → rule_holds vars (throw_rule vars P.program.exception h.0 here (P.row T.class h.0)) ≡ true
      → Fine P s i (athrow_fault s i T P.program.exception limit h) 0 (throw_move s i T vars h (top_of T))
  unfolding throw_rule stack_goes
  athrow-fine h l e =
      let x = throw-fine h (here.stack 0) (top_of T) l ug all r.1 (throw-stands vars w16 s.objects cls cnt here T e16 st en below) in
      record {
        no_fault =
            went_on_lem _ _ (le-leb 1 T.depth (omega (arith, st.depth_exact, en)))
            ∙ went_on_lem _ _ (object-is s.objects s.classes P.program.exception (here.stack 0) (top_of T) is (entry-kind vars w16 s.objects cls cnt here T e16 st 0 (omega (arith, st.depth_exact, en))))
            ∙ x.no_fault;
        good = x.good;
      }
    where
      r : ((leb 1 here.depth && is_of P.program.exception (here.stack 0) && stack_goes (rows.popped 1 here) && uncaught_goes vars h.0 (here.stack 0) here) ≡ true) × AllFit vars (thrown h.0 (here.stack 0) here (P.row T.class h.0))
      r = held vars (throw_rule vars P.program.exception h.0 here (P.row T.class h.0)) e

      a : (leb 1 here.depth && is_of P.program.exception (here.stack 0) && stack_goes (rows.popped 1 here) && uncaught_goes vars h.0 (here.stack 0) here) ≡ true
      a = r.0

      en : 1 ≤ here.depth
      en = leb-true _ _ (search (and-fst, and-snd, a))

      is : is_of P.program.exception (here.stack 0) ≡ true
      is = search (and-fst, and-snd, a)

      rest : stack_goes (rows.popped 1 here) ≡ true
      rest = search (and-fst, and-snd, a)

      ug : uncaught_goes vars h.0 (here.stack 0) here ≡ true
      ug = search (and-fst, and-snd, a)

      go : (j p : ℕ) → j ≡ 1 + p → j < here.depth → may_go (here.stack j) ≡ true
      go j p q k = rw q (all-elim (entry_goes (rows.popped 1 here)) (here.depth - 1) rest p (omega arith))

      below : (j : ℕ) → 1 ≤ j → j < here.depth → no_end ≤ end_of (here.stack j)
      below j b k = goes_end (here.stack j) (go j (j - 1) (omega arith) k)

      -- with the top, every entry
      all : may_go (here.stack 0) ≡ true → stack_goes here ≡ true
      all m = all-intro (entry_goes here) here.depth (λ j k. each j k (ℕ_discrete j 0))
        where
          each : (j : ℕ) → j < here.depth → Dec (j ≡ 0) → may_go (here.stack j) ≡ true
          each j k (yes q) = rw q m
          each j k (no q) = go j (j - 1) (omega arith) k
