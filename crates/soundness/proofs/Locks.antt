-- monitorenter and monitorexit: one count of the thread moves by one, with the pair of the variable that names the object.
use Prim.Native.Nat.{ℕ, ◌+◌, ◌-◌, ◌*◌, ◌≤◌, ◌<◌}
use mathlib.Core.Path.{◌≡◌, refl, sym, ap, ◌∙◌}
use mathlib.Core.Logic.{◌≢◌}
use mathlib.Core.Bool.{Bool, true, false, cond, not, ◌||◌}
use native.Mathlib.Omega.{arith}
use lib.Dec.{ltb, eqb}
use lib.ListN.{set}
use borrow.Author.Tests.{lt-ltb, eqb-true, eq-eqb, ne_eqb}
use Rattle.ground.proofs.Bools.{and-fst, and-snd, or_left, or_right}
use Rattle.ground.proofs.Bounded.{all-elim}
use Rattle.ground.proofs.Chain.{went_on_lem, tested}
use Rattle.instructions.specs.declared.Addr.{Addr}
use Rattle.instructions.specs.declared.Var.{Var}
use Rattle.bundle.specs.Program.{Address}
use Rattle.entries.specs.Entries.{Entry, is_reference, is_nullable}
use Rattle.entries.specs.Entries as entries
use Rattle.entries.specs.Fits.{want_entered, want_exited}
use Rattle.rows.specs.Rows.{Row}
use Rattle.rows.specs.Typed.{Typed}
use Rattle.matching.specs.Matching.{wants, wants_at, edge}
use Rattle.matching.specs.Matching as rows
use Rattle.rules.specs.Rule.{rule_holds}
use Rattle.rules.specs.Rules.{made, unnulled, enter_rule, exit_rule}
use Rattle.values.specs.Values.{is_null}
use Rattle.threads.specs.declared.Thread.{Thread}
use Rattle.threads.specs.Threads.{var_of, with_at}
use Rattle.state.specs.declared.State.{State}
use Rattle.state.specs.State.{thread_at, count_of, class_of, with_count, free_of, others_free}
use Rattle.turns.specs.Answers.{test}
use Rattle.turns.specs.Faults.{lock_of, enter_fault, exit_fault}
use Rattle.turns.specs.Waits.{enter_wait}
use Rattle.turns.specs.Moves.{counted, enter_move, exit_move}
use Rattle.soundness.specs.Balance.{Matches, Stands}
use Rattle.soundness.specs.Invariant.{Inv}
use Rattle.rules.proofs.Held.{Meets, Fits, held}
use Rattle.soundness.proofs.Kind.{nullable-value, not_null, no-int}
use Rattle.soundness.proofs.Weights.{nullable-goes}
use Rattle.soundness.proofs.Accepted.{Accepted}
use Rattle.soundness.proofs.Stands.{fit-stands, variable-kind, as-stands, is-object, object-known, dip-promises, enter-stands, exit-stands, fits-at}
use Rattle.soundness.proofs.Invariant.{bounded}
use Rattle.soundness.proofs.Moves.{Others, others, live-standing, thread-moves, count-other, count_same, count-moves, Good, went, Fine, branches}
use Rattle.soundness.proofs.Goes.{arrives, v16, d16, at_here}
use Rattle.soundness.proofs.Ends.{null-fine}

module _ (P : Typed) (A : Accepted P) (s : State) (inv : Inv P s) (i : ℕ) (li : i < 8) (lv : (thread_at s i).live ≡ true) (v : Var) (l : v.0 < (P.program.method (thread_at s i).class).vars) where
  abbrev T : Thread
  T = thread_at s i

  abbrev vars : ℕ
  vars = (P.program.method (thread_at s i).class).vars

  abbrev limit : ℕ
  limit = (P.program.method (thread_at s i).class).limit

  abbrev here : Row
  here = P.row (thread_at s i).class (thread_at s i).at.0

  abbrev next : Row
  next = P.row (thread_at s i).class ((thread_at s i).at.0 + 1)

  abbrev Next : Type 0
  Next = Address P.program (thread_at s i).class ((thread_at s i).at.0 + 1)

  abbrev cls : ℕ → ℕ
  cls = class_of s

  abbrev cnt : ℕ → ℕ
  cnt = count_of s.counts i

  st : Stands vars s.objects cls cnt here T
  st = at_here P A s inv i li lv

  w16 : vars ≤ 16
  w16 = v16 P A s inv i li lv

  e16 : T.depth ≤ 16
  e16 = d16 P A s inv i li lv

  abbrev O : ℕ
  O = lock_of (thread_at s i) v

  away : Others P s i
  away = others P s inv i

  free-others : (o : ℕ) → others_free s.counts i o ≡ true → (j : ℕ) → j < 8 → j ≢ i → count_of s.counts j o ≡ 0
  unfolding others_free
  free-others o f j lj x = eqb-true _ _ (or_right (eqb j i) _ (all-elim (free_of s.counts i o) 8 f j lj) (ne_eqb j i x))

  -- the row x with the next row's entry at v
  abbrev moved : Row → Row
  moved x = rows.stored v.0 (next.variable v.0) x

  -- thread i's count of O becomes n
  count-goes : (x : Row) (n : ℕ) → O < 32 → (0 < n → (j : ℕ) → j < 8 → j ≢ i → count_of s.counts j O ≡ 0) → Next → Fits vars (edge (moved x) (wants next))
      → Stands vars s.objects cls (count_of (set s.counts (i * 32 + O) n) i) (moved x) T → Good P s i (counted s i T O n)
  count-goes x n lo f ad e h =
      went P s i _
      (thread-moves P (with_count s i O n) i li (count-moves P s i li away O n lo f) _
      (live-standing P s.objects cls (count_of (set s.counts (i * 32 + O) n) i) (with_at T (T.at.0 + 1))
      (arrives P s.objects cls _ T T.class (T.at.0 + 1) lv refl ad (fit-stands vars w16 s.objects cls _ (moved x) next T e h))))

  known : (x : Row) → Stands vars s.objects cls cnt x T → is_reference (x.variable v.0) ≡ true → O < 32
  known x h q = omega (arith, object-known vars w16 s.objects cls cnt x T e16 h v.0 l q, inv.whole.objects_32)

  -- the lock is taken, where the thread stands at the row x, with a reference at v
  take-fine : (x : Row) → Stands vars s.objects cls cnt x T → is_reference (x.variable v.0) ≡ true → Next → Fits vars (edge x (wants_at v.0 (want_entered (next.variable v.0)) next))
      → Fine P s i (test (ltb (cnt O) 2047) 16 0) (test (others_free s.counts i O) 3 0) (counted s i T O (cnt O + 1))
  take-fine x h q ad f =
      let p = fits-at vars v.0 x next l (want_entered (next.variable v.0)) f in
      let lo : O < 32 = known x h q in
      record {
        no_fault = went_on_lem _ _ (lt-ltb (cnt O) 2047 (omega (arith, bounded P A s inv i O li lo)));
        good = λ w. count-goes x (cnt O + 1) lo (λ _. free-others O (tested _ _ _ w).0) ad p.1
            (enter-stands vars w16 s.objects cls cnt x T e16 h v.0 l q (next.variable v.0) p.0.kind _
            (λ o k z. count-other P s i li away i O o (cnt O + 1) lo k (λ _. z))
            (count_same P s i li away O (cnt O + 1) lo) p.0);
      }

  abbrev lock : Entry
  lock = (P.row (thread_at s i).class (thread_at s i).at.0).variable v.0

  kind : Matches s.objects cls lock (var_of T v.0).value
  kind = variable-kind vars w16 s.objects cls cnt here T e16 st v.0 l

  -- what may be null, and isn't, counts as a reference with (0,0)
  counts-as : (is_reference lock || is_nullable lock) ≡ true → is_null (var_of T v.0) ≡ false
      → (is_reference ((unnulled v.0 here).variable v.0) ≡ true) × Stands vars s.objects cls cnt (unnulled v.0 here) T
  unfolding unnulled
  counts-as k n = go (is_nullable lock) refl
    where
      known_as : Entry
      known_as = made (entries.class_of lock)

      object : Matches s.objects cls lock (var_of T v.0).value → Matches s.objects cls known_as (var_of T v.0).value
      object m =
          not_null s.objects cls (entries.class_of lock) (var_of T v.0).value n
          (nullable-value s.objects cls (entries.class_of lock) lock (var_of T v.0).value (rw (k, eq-eqb (entries.class_of lock) (entries.class_of lock) refl)) m)

      go : (b : Bool) → is_nullable lock ≡ b
          → (is_reference ((cond b (rows.stored v.0 known_as here) here).variable v.0) ≡ true) × Stands vars s.objects cls cnt (cond b (rows.stored v.0 known_as here) here) T
      go true q = (
        rw (eq-eqb v.0 v.0 refl),
        as-stands vars w16 s.objects cls cnt here T e16 st v.0 known_as l (nullable-goes lock q) refl refl object,
      )
      go false q = (or_left (is_reference lock) (is_nullable lock) k q, st)

  pub enter-fine : (h : Addr) → h.0 ≤ (P.program.method T.class).code → Next → rule_holds vars (enter_rule vars P.program.exception v.0 h.0 here next (P.row T.class h.0)) ≡ true
      → Fine P s i (enter_fault s.counts i T v limit h) (enter_wait s.counts i T v) (enter_move s i T vars v h)
  unfolding enter_rule
  enter-fine h lh ad e =
      let r = held vars (enter_rule vars P.program.exception v.0 h.0 here next (P.row T.class h.0)) e in
      let k : (is_reference lock || is_nullable lock) ≡ true = and-fst (is_reference lock || is_nullable lock) _ r.0 in
      let x = branches P s i (is_null (var_of T v.0)) _ _ (λ b. cond b 0 (test (others_free s.counts i O) 3 0)) _ _
      (λ q. null-fine P A s inv i li lv h lock (var_of T v.0) lh k kind q (and-snd (is_reference lock || is_nullable lock) _ r.0) r.1.1)
      (λ q. let c = counts-as k q in take-fine (unnulled v.0 here) c.1 c.0 ad r.1.0) in
      record {
        no_fault = went_on_lem _ _ (ap not (no-int s.objects cls lock (var_of T v.0).value k kind)) ∙ x.no_fault;
        good = x.good;
      }

  -- monitorexit's rule: the thread holds the object that it leaves
  holds-it : is_reference (here.variable v.0) ≡ true → Meets (here.variable v.0) (want_exited (next.variable v.0)) → 0 < cnt O
  holds-it q m = omega (arith, m.dip, dip-promises vars w16 s.objects cls cnt here T e16 st v.0 l q (known here st q))

  pub exit-fine : Next → rule_holds vars (exit_rule v.0 here next) ≡ true → Fine P s i (exit_fault s.counts i T v) 0 (exit_move s i T v)
  unfolding exit_rule
  exit-fine ad e =
      let r = held vars (exit_rule v.0 here next) e in
      let p = fits-at vars v.0 here next l (want_exited (next.variable v.0)) r.1.0 in
      let lo : O < 32 = known here st r.0 in
      let some : 0 < cnt O = holds-it r.0 p.0 in
      record {
        no_fault = went_on_lem _ _ (is-object vars w16 s.objects cls cnt here T e16 st v.0 l r.0) ∙ went_on_lem _ _ (lt-ltb 0 (cnt O) some);
        good = λ _. count-goes here (cnt O - 1) lo (λ _ j lj x. inv.whole.one_holder i j O li lj lo (λ q. x (sym q)) some) ad p.1
            (exit-stands vars w16 s.objects cls cnt here T e16 st v.0 l r.0 (next.variable v.0) p.0.kind _
            (λ o k x. count-other P s i li away i O o (cnt O - 1) lo k (λ _. x))
            (rw (count_same P s i li away O (cnt O - 1) lo) (omega arith)) p.0);
      }

  pub leaves_held : rule_holds vars (exit_rule v.0 here next) ≡ true → 0 < cnt O
  unfolding exit_rule
  leaves_held e =
      let r = held vars (exit_rule v.0 here next) e in
      holds-it r.0 (fits-at vars v.0 here next l (want_exited (next.variable v.0)) r.1.0).0
