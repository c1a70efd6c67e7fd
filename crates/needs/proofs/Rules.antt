-- Each rule under a lowering of the pairs: where it holds of the upper rows, row l has above what the lower rows ask of it (`forced`); and where it has it below too, the rule holds below (`holds`). So only pairs of row l can be too small below, and nothing else can fail there: what is asked is exactly what the rules ask of pairs.
use mathlib.Core.Path.{◌≡◌, refl}
use mathlib.Core.Bool.{true, cond, ◌||◌}
use Prim.Native.Nat.{ℕ, zero, suc, ◌+◌, ◌-◌, ◌≤◌, ◌<◌}
use native.Mathlib.Omega.{arith}
use native.Mathlib.Decide.{ℕ_discrete}
use lib.Dec.{leb, eqb}
use borrow.Author.Tests.{leb-true, le-leb, ne_eqb}
use Rattle.ground.specs.Bounded.{all_below}
use Rattle.ground.proofs.Bools.{and-fst, and-snd, and_both}
use Rattle.ground.proofs.Bounded.{all-elim, all-intro}
use Rattle.instructions.specs.declared.Instruction.{Instruction}
use Rattle.instructions.specs.declared.Instruction.TheVariants.{Inc, Pop, Push0, Load, Store, If, Enter, Exit, New, Start, Throw, Return, Get, Put, Nothing}
use Rattle.instructions.proofs.Table.{InstructionFits}
use Rattle.bundle.specs.Program.{Program}
use Rattle.entries.specs.Entries.{is_int, is_reference, is_nullable, is_of, matches, matches_field, may_be_of, field_entry}
use Rattle.entries.specs.Entries as entries
use Rattle.entries.specs.Fits.{may_go, want_exited}
use Rattle.rows.specs.Rows.{Row}
use Rattle.matching.specs.Matching.{popped, stack_goes, entry_goes}
use Rattle.rules.specs.Rule.{rule_holds}
use Rattle.rules.specs.Rules.{made, uncaught_goes, null_goes, inc_rule, pop_rule, push0_rule, load_rule, store_rule, if_rule, enter_rule, exit_rule, new_rule, argument_goes, object_goes, arguments_go, start_rule, throw_rule, return_rule, owner_goes, get_rule, put_rule, rule_of}
use Rattle.rules.proofs.Held.{held, holds}
use Rattle.needs.specs.Needs.{gone, kept, taken, thrown_var, thrown_top, throw_need}
use Rattle.needs.specs.Exactly.{UnderRow, Has, AllHave, Met}
use Rattle.needs.proofs.Entries.{int-under, nullable-under, reference-under, of-under, may-be-under, matches-under, field-under, both-has, left-has, right-has, null_has, null-left, null-right, exited-lower, goes-forced, goes-holds, int-has}
use Rattle.needs.proofs.Rows.{vars-gone, vars-go, stack-gone, stack-goes}
use Rattle.needs.proofs.Edges.{popped-forced, popped-top, popped-holds, replaced-forced, replaced-top, replaced-holds, pushed-forced, pushed-holds, moved-forced, moved_holds, stored-forced, stored-old, stored-holds, entered-forced, entered-holds, loaded-forced, loaded-holds}
use Rattle.needs.proofs.Throws.{thrown-forced, thrown-holds, failure-forced, failure-holds, null-forced, null-holds}

-- the first entry alone
top-only : (B : ℕ → Type 0) → B 0 → (j : ℕ) → j < 1 → B j
top-only B b j l = let e : j ≡ 0 = omega arith in rw e b

-- the first two
two-only : (B : ℕ → Type 0) → B 0 → B 1 → (j : ℕ) → j < 2 → B j
two-only B a b j l = go (ℕ_discrete j 0)
  where
    go : Dec (j ≡ 0) → B j
    go (yes e) = rw e a
    go (no n) = let e : j ≡ 1 = omega arith in rw e b

-- the arguments of start and the object below them
all_go : (n : ℕ) (D : ℕ → ℕ) (r : Row) → all_below n (argument_goes D r) ≡ true → may_go (r.stack n) ≡ true → (j : ℕ) → j < n + 1 → may_go (r.stack j) ≡ true
unfolding argument_goes
all_go n D r t o j k = go (ℕ_discrete j n)
  where
    go : Dec (j ≡ n) → may_go (r.stack j) ≡ true
    go (yes e) = rw e o
    go (no e) = and-snd (matches (D j) (r.stack j)) _ (all-elim (argument_goes D r) n t j (omega arith))

module _ (P : Program) (vars : ℕ) (cur acc : ℕ → Row) (l : ℕ) where
  abbrev x : Row
  x = cur l

  abbrev x' : Row
  x' = acc l

  abbrev y : Row
  y = cur (l + 1)

  abbrev y' : Row
  y' = acc (l + 1)

  pub record Step (i : Instruction) : Type 0 where
    pub forced : rule_holds vars (rule_of P vars acc l i) ≡ true → Met P vars cur l i x'
    pub holds : rule_holds vars (rule_of P vars acc l i) ≡ true → Met P vars cur l i x → rule_holds vars (rule_of P vars cur l i) ≡ true

  module _ (u : UnderRow vars x x') where
    return-step : Step Return
    unfolding return_rule
    return-step =
        record {
          forced = λ h.
              let a = (held vars (return_rule vars x') h).0 in
              record { variable = vars-gone vars x x' u (and-snd (stack_goes x') _ a); stack = stack-gone vars x x' u (and-fst _ _ a) };
          holds = λ h m.
              let a = (held vars (return_rule vars x') h).0 in
              holds vars (return_rule vars x) (and_both _ _ (stack-goes vars x x' u (and-fst _ _ a) m.stack) (vars-go vars x x' u (and-snd (stack_goes x') _ a) m.variable)) tt;
        }

    -- ---- a throw
    module _ (h : ℕ) (w : (h ≡ 0 → ⊥) → UnderRow vars (cur h) (acc h)) where
      throw-forced : rule_holds vars (throw_rule vars P.exception h x' (acc h)) ≡ true
          → AllHave vars x.depth (thrown_var h (cur h)) (throw_need h (cur h)) x'
      unfolding throw_rule stack_goes throw_need
      throw-forced r =
          let k = held vars (throw_rule vars P.exception h x' (acc h)) r in
          let a : leb 1 x'.depth ≡ true = search (and-fst, and-snd, k.0) in
          let g : uncaught_goes vars h (x'.stack 0) x' ≡ true = search (and-fst, and-snd, k.0) in
          let s : all_below (x'.depth - 1) (entry_goes (popped 1 x')) ≡ true = search (and-fst, and-snd, k.0) in
          let t = thrown-forced vars x x' u h (cur h) (acc h) w (x.stack 0) (x'.stack 0) (u.stack 0 (omega (arith, leb-true 1 x'.depth a, u.depth))) g k.1 in
          record { variable = t.0; stack = stack t.1 s }
        where
          stack : Has (thrown_top h (cur h)) (x'.stack 0) → all_below (x'.depth - 1) (entry_goes (popped 1 x')) ≡ true → (j : ℕ) → j < x.depth → Has (cond (eqb j 0) (thrown_top h (cur h)) gone) (x'.stack j)
          stack t s zero k = t
          stack t s (suc j) k =
              let e : 1 + j ≡ suc j = omega arith in
              rw (ne_eqb (suc j) 0 (λ q. omega arith)) (goes-forced (x'.stack (suc j)) (rw e at (all-elim (entry_goes (popped 1 x')) (x'.depth - 1) s j (omega (arith, u.depth)))))

      throw-holds : rule_holds vars (throw_rule vars P.exception h x' (acc h)) ≡ true
          → AllHave vars x.depth (thrown_var h (cur h)) (throw_need h (cur h)) x → rule_holds vars (throw_rule vars P.exception h x (cur h)) ≡ true
      unfolding throw_rule stack_goes throw_need
      throw-holds r m =
          let k = held vars (throw_rule vars P.exception h x' (acc h)) r in
          let a : leb 1 x'.depth ≡ true = search (and-fst, and-snd, k.0) in
          let d : 1 ≤ x.depth = omega (arith, leb-true 1 x'.depth a, u.depth) in
          let o : is_of P.exception (x'.stack 0) ≡ true = search (and-fst, and-snd, k.0) in
          let g : uncaught_goes vars h (x'.stack 0) x' ≡ true = search (and-fst, and-snd, k.0) in
          let s : all_below (x'.depth - 1) (entry_goes (popped 1 x')) ≡ true = search (and-fst, and-snd, k.0) in
          let t = thrown-holds vars x x' u h (cur h) (acc h) w (x.stack 0) (x'.stack 0) (u.stack 0 d) g k.1 m.variable (m.stack 0 d) in
          let e : all_below (x.depth - 1) (entry_goes (popped 1 x)) ≡ true = all-intro (entry_goes (popped 1 x)) (x.depth - 1) (λ j q. below s j q) in
          holds vars (throw_rule vars P.exception h x (cur h))
          (and_both _ _ (and_both _ _ (and_both _ _ (le-leb 1 x.depth d) (of-under (u.stack 0 d) P.exception o)) e) t.0) t.1
        where
          below : all_below (x'.depth - 1) (entry_goes (popped 1 x')) ≡ true → (j : ℕ) → j < x.depth - 1 → may_go (x.stack (1 + j)) ≡ true
          below s j q =
              let e : 1 + j ≡ suc j = omega arith in
              let b : may_go (x'.stack (suc j)) ≡ true = rw e at (all-elim (entry_goes (popped 1 x')) (x'.depth - 1) s j (omega (arith, u.depth))) in
              rw e (goes-holds (u.stack (suc j) (omega arith)) b (rw (ne_eqb (suc j) 0 (λ q. omega arith)) at (m.stack (suc j) (omega arith))))

    -- ---- instructions that go on to row l+1
    module _ (v : UnderRow vars y y') where
      inc-step : Step Inc
      unfolding inc_rule
      inc-step =
          record {
            forced = λ h.
                let k = held vars (inc_rule x' y') h in
                let d = leb-true 1 x'.depth (and-fst _ _ k.0) in
                let t : is_int (x'.stack 0) ≡ true = and-snd (leb 1 x'.depth) _ k.0 in
                replaced-forced vars x x' y y' u v entries.Int d k.1.0 (int-has (x'.stack 0) t);
            holds = λ h m.
                let k = held vars (inc_rule x' y') h in
                let d = leb-true 1 x'.depth (and-fst _ _ k.0) in
                let e : 1 ≤ x.depth = omega (arith, d, u.depth) in
                let t : is_int (x'.stack 0) ≡ true = and-snd (leb 1 x'.depth) _ k.0 in
                holds vars (inc_rule x y) (and_both _ _ (le-leb 1 x.depth e) (int-under (u.stack 0 e) t)) (replaced-holds vars x x' y y' u v entries.Int d k.1.0 m, tt);
          }

      pop_step : Step Pop
      unfolding pop_rule
      pop_step =
          record {
            forced = λ h.
                let k = held vars (pop_rule x' y') h in
                let d = leb-true 1 x'.depth (and-fst _ _ k.0) in
                let t : may_go (x'.stack 0) ≡ true = and-snd (leb 1 x'.depth) _ k.0 in
                popped-forced vars x x' y y' u v 1 d k.1.0 (top-only (λ j. Has gone (x'.stack j)) (goes-forced (x'.stack 0) t));
            holds = λ h m.
                let k = held vars (pop_rule x' y') h in
                let d = leb-true 1 x'.depth (and-fst _ _ k.0) in
                let e : 1 ≤ x.depth = omega (arith, d, u.depth) in
                let t : may_go (x'.stack 0) ≡ true = and-snd (leb 1 x'.depth) _ k.0 in
                holds vars (pop_rule x y)
                (and_both _ _ (le-leb 1 x.depth e) (goes-holds (u.stack 0 e) t (popped-top vars x x' y y' u v 1 d k.1.0 m 0 (omega arith))))
                (popped-holds vars x x' y y' u v 1 d k.1.0 m, tt);
          }

      push0-step : Step Push0
      unfolding push0_rule
      push0-step =
          record {
            forced = λ h. pushed-forced vars x x' y y' u v entries.Int (held vars (push0_rule x' y') h).1.0;
            holds = λ h m. holds vars (push0_rule x y) refl (pushed-holds vars x x' y y' u v entries.Int (held vars (push0_rule x' y') h).1.0 m, tt);
          }

      module _ (w : ℕ) (lw : w < vars) where
        load-forced : rule_holds vars (load_rule w x' y') ≡ true → Met P vars cur l (Load (record { 0 = w })) x'
        unfolding load_rule
        load-forced h = loaded-forced vars x x' y y' u v w lw (held vars (load_rule w x' y') h).1.0

        load-holds : rule_holds vars (load_rule w x' y') ≡ true → Met P vars cur l (Load (record { 0 = w })) x → rule_holds vars (load_rule w x y) ≡ true
        unfolding load_rule
        load-holds h m = holds vars (load_rule w x y) refl (loaded-holds vars x x' y y' u v w lw (held vars (load_rule w x' y') h).1.0 m, tt)

        store-forced : rule_holds vars (store_rule w x' y') ≡ true → Met P vars cur l (Store (record { 0 = w })) x'
        unfolding store_rule
        store-forced h =
            let k = held vars (store_rule w x' y') h in
            let t : may_go (x'.variable w) ≡ true = and-snd (leb 1 x'.depth) _ k.0 in
            stored-forced vars x x' y y' u v w lw (leb-true 1 x'.depth (and-fst _ _ k.0)) k.1.0 (goes-forced (x'.variable w) t)

        store-holds : rule_holds vars (store_rule w x' y') ≡ true → Met P vars cur l (Store (record { 0 = w })) x → rule_holds vars (store_rule w x y) ≡ true
        unfolding store_rule
        store-holds h m =
            let k = held vars (store_rule w x' y') h in
            let d = leb-true 1 x'.depth (and-fst _ _ k.0) in
            let e : 1 ≤ x.depth = omega (arith, d, u.depth) in
            let t : may_go (x'.variable w) ≡ true = and-snd (leb 1 x'.depth) _ k.0 in
            holds vars (store_rule w x y)
            (and_both _ _ (le-leb 1 x.depth e) (goes-holds (u.variable w lw) t (stored-old vars x x' y y' u v w lw d k.1.0 m)))
            (stored-holds vars x x' y y' u v w lw d k.1.0 m, tt)

        exit-forced : rule_holds vars (exit_rule w x' y') ≡ true → Met P vars cur l (Exit (record { 0 = w })) x'
        unfolding exit_rule
        exit-forced h = moved-forced vars x x' y y' u v w lw (want_exited (y.variable w)) (want_exited (y'.variable w)) (exited-lower (v.variable w lw)) (held vars (exit_rule w x' y') h).1.0

        exit-holds : rule_holds vars (exit_rule w x' y') ≡ true → Met P vars cur l (Exit (record { 0 = w })) x → rule_holds vars (exit_rule w x y) ≡ true
        unfolding exit_rule
        exit-holds h m =
            let k = held vars (exit_rule w x' y') h in
            let r : is_reference (x.variable w) ≡ true = rw (reference-under (u.variable w lw)) k.0 in
            holds vars (exit_rule w x y) r
            (moved_holds vars x x' y y' u v w lw (want_exited (y.variable w)) (want_exited (y'.variable w)) (exited-lower (v.variable w lw)) k.1.0 m, tt)

      module _ (c : ℕ) where
        abbrev n : ℕ
        n = (P.method c).args

        abbrev D : ℕ → ℕ
        D = (P.method c).descriptor

        start-step : Step (Start c)
        unfolding start_rule arguments_go object_goes argument_goes
        start-step =
            record {
              forced = λ h.
                  let k = held vars (start_rule n D c x' y') h in
                  let d : leb (n + 1) x'.depth ≡ true = search (and-fst, and-snd, k.0) in
                  let t : all_below n (argument_goes D x') ≡ true = search (and-fst, and-snd, k.0) in
                  let o : may_go (x'.stack n) ≡ true = search (and-fst, and-snd, k.0) in
                  popped-forced vars x x' y y' u v (n + 1) (leb-true (n + 1) x'.depth d) k.1.0 (λ j q. goes-forced (x'.stack j) (all_go n D x' t o j q));
              holds = λ h m.
                  let k = held vars (start_rule n D c x' y') h in
                  let d : leb (n + 1) x'.depth ≡ true = search (and-fst, and-snd, k.0) in
                  let b = leb-true (n + 1) x'.depth d in
                  let e : n + 1 ≤ x.depth = omega (arith, b, u.depth) in
                  let t : all_below n (argument_goes D x') ≡ true = search (and-fst, and-snd, k.0) in
                  let o : may_go (x'.stack n) ≡ true = search (and-fst, and-snd, k.0) in
                  let i : is_of c (x'.stack n) ≡ true = search (and-fst, and-snd, k.0) in
                  let top = popped-top vars x x' y y' u v (n + 1) b k.1.0 m in
                  let args : all_below n (argument_goes D x) ≡ true =
                  all-intro (argument_goes D x) n (λ j q. and_both _ _ (matches-under (u.stack j (omega arith)) (D j) (and-fst _ _ (all-elim (argument_goes D x') n t j q))) (goes-holds (u.stack j (omega arith)) (and-snd (matches (D j) (x'.stack j)) _ (all-elim (argument_goes D x') n t j q)) (top j (omega arith)))) in
                  holds vars (start_rule n D c x y)
                  (and_both _ _ (and_both _ _ (le-leb (n + 1) x.depth e) args) (and_both _ _ (of-under (u.stack n (omega arith)) c i) (goes-holds (u.stack n (omega arith)) o (top n (omega arith)))))
                  (popped-holds vars x x' y y' u v (n + 1) b k.1.0 m, tt);
            }

      -- ---- to a target's row, too
      module _ (a : ℕ) (w : UnderRow vars (cur a) (acc a)) where
        abbrev z : Row
        z = cur a

        abbrev z' : Row
        z' = acc a

        if-forced : rule_holds vars (if_rule x' y' z') ≡ true → Met P vars cur l (If (record { 0 = a })) x'
        unfolding if_rule
        if-forced h =
            let k = held vars (if_rule x' y' z') h in
            let d = leb-true 1 x'.depth (and-fst _ _ k.0) in
            let t : is_int (x'.stack 0) ≡ true = and-snd (leb 1 x'.depth) _ k.0 in
            let top = top-only (λ j. Has gone (x'.stack j)) (int-has (x'.stack 0) t) in
            let p = popped-forced vars x x' y y' u v 1 d k.1.0 top in
            let q = popped-forced vars x x' z z' u w 1 d k.1.1.0 top in
            record {
              variable = λ i r. both-has _ _ (x'.variable i) (p.variable i r) (q.variable i r);
              stack = λ j r. both-has _ _ (x'.stack j) (p.stack j r) (q.stack j r);
            }

        if-holds : rule_holds vars (if_rule x' y' z') ≡ true → Met P vars cur l (If (record { 0 = a })) x → rule_holds vars (if_rule x y z) ≡ true
        unfolding if_rule
        if-holds h m =
            let k = held vars (if_rule x' y' z') h in
            let d = leb-true 1 x'.depth (and-fst _ _ k.0) in
            let e : 1 ≤ x.depth = omega (arith, d, u.depth) in
            let t : is_int (x'.stack 0) ≡ true = and-snd (leb 1 x'.depth) _ k.0 in
            let p : AllHave vars x.depth (kept y) (taken gone 1 y.stack) x = record { variable = λ i r. left-has _ _ (x.variable i) (m.variable i r); stack = λ j r. left-has _ _ (x.stack j) (m.stack j r) } in
            let q : AllHave vars x.depth (kept z) (taken gone 1 z.stack) x = record { variable = λ i r. right-has _ _ (x.variable i) (m.variable i r); stack = λ j r. right-has _ _ (x.stack j) (m.stack j r) } in
            holds vars (if_rule x y z) (and_both _ _ (le-leb 1 x.depth e) (int-under (u.stack 0 e) t))
            (popped-holds vars x x' y y' u v 1 d k.1.0 p, (popped-holds vars x x' z z' u w 1 d k.1.1.0 q, tt))

      -- ---- or to a handler's row
      module _ (h : ℕ) (w : (h ≡ 0 → ⊥) → UnderRow vars (cur h) (acc h)) where
        abbrev X : ℕ
        X = P.exception

        new-forced : (c : ℕ) → rule_holds vars (new_rule vars X c h x' y' (acc h)) ≡ true → Met P vars cur l (New c (record { 0 = h })) x'
        unfolding new_rule
        new-forced c r =
            let k = held vars (new_rule vars X c h x' y' (acc h)) r in
            let p = failure-forced vars x x' u h (cur h) (acc h) w X k.0 k.1.1 in
            let q = pushed-forced vars x x' y y' u v (made c) k.1.0 in
            record {
              variable = λ i s. both-has _ _ (x'.variable i) (p.variable i s) (q.variable i s);
              stack = λ j s. both-has _ _ (x'.stack j) (p.stack j s) (q.stack j s);
            }

        new-holds : (c : ℕ) → rule_holds vars (new_rule vars X c h x' y' (acc h)) ≡ true → Met P vars cur l (New c (record { 0 = h })) x → rule_holds vars (new_rule vars X c h x y (cur h)) ≡ true
        unfolding new_rule
        new-holds c r m =
            let k = held vars (new_rule vars X c h x' y' (acc h)) r in
            let f = failure-holds vars x x' u h (cur h) (acc h) w X k.0 k.1.1 (record { variable = λ i s. left-has _ _ (x.variable i) (m.variable i s); stack = λ j s. left-has _ _ (x.stack j) (m.stack j s) }) in
            let g = pushed-holds vars x x' y y' u v (made c) k.1.0 (record { variable = λ i s. right-has _ _ (x.variable i) (m.variable i s); stack = λ j s. right-has _ _ (x.stack j) (m.stack j s) }) in
            holds vars (new_rule vars X c h x y (cur h)) f.0 (g, f.1)

        module _ (i : ℕ) (li : i < vars) where
          enter-forced : rule_holds vars (enter_rule vars X i h x' y' (acc h)) ≡ true → Met P vars cur l (Enter (record { 0 = i }) (record { 0 = h })) x'
          unfolding enter_rule
          enter-forced r =
              let k = held vars (enter_rule vars X i h x' y' (acc h)) r in
              let g : null_goes vars X h (x'.variable i) x' ≡ true = and-snd (is_reference (x'.variable i) || is_nullable (x'.variable i)) _ k.0 in
              let p = null-forced vars x x' u h (cur h) (acc h) w X (x.variable i) (x'.variable i) (u.variable i li) g k.1.1 in
              let q = entered-forced vars x x' y y' u v i li k.1.0 in
              record {
                variable = λ j s. null_has _ _ (x'.variable j) (x.variable i) (λ t. (p t).variable j s) (q.variable j s);
                stack = λ j s. null_has _ _ (x'.stack j) (x.variable i) (λ t. (p t).stack j s) (q.stack j s);
              }

          enter-holds : rule_holds vars (enter_rule vars X i h x' y' (acc h)) ≡ true → Met P vars cur l (Enter (record { 0 = i }) (record { 0 = h })) x → rule_holds vars (enter_rule vars X i h x y (cur h)) ≡ true
          unfolding enter_rule
          enter-holds r m =
              let k = held vars (enter_rule vars X i h x' y' (acc h)) r in
              let g : null_goes vars X h (x'.variable i) x' ≡ true = and-snd (is_reference (x'.variable i) || is_nullable (x'.variable i)) _ k.0 in
              let o : (is_reference (x.variable i) || is_nullable (x.variable i)) ≡ true =
              rw (reference-under (u.variable i li), nullable-under (u.variable i li)) (and-fst (is_reference (x'.variable i) || is_nullable (x'.variable i)) _ k.0) in
              let p = null-holds vars x x' u h (cur h) (acc h) w X (x.variable i) (x'.variable i) (u.variable i li) g k.1.1
              (λ t. record { variable = λ j s. null-left _ _ (x.variable j) (x.variable i) (m.variable j s) t; stack = λ j s. null-left _ _ (x.stack j) (x.variable i) (m.stack j s) t }) in
              let q = entered-holds vars x x' y y' u v i li k.1.0
              (record { variable = λ j s. null-right _ _ (x.variable j) (x.variable i) (m.variable j s); stack = λ j s. null-right _ _ (x.stack j) (x.variable i) (m.stack j s) }) in
              holds vars (enter_rule vars X i h x y (cur h)) (and_both _ _ o p.0) (q, p.1)

        module _ (c f : ℕ) where
          abbrev d : ℕ
          d = (P.method c).field f

          get-forced : rule_holds vars (get_rule vars X c d h x' y' (acc h)) ≡ true → Met P vars cur l (Get c f (record { 0 = h })) x'
          unfolding get_rule owner_goes
          get-forced r =
              let k = held vars (get_rule vars X c d h x' y' (acc h)) r in
              let b : leb 1 x'.depth ≡ true = search (and-fst, and-snd, k.0) in
              let e : 1 ≤ x.depth = omega (arith, leb-true 1 x'.depth b, u.depth) in
              let o : may_go (x'.stack 0) ≡ true = search (and-fst, and-snd, k.0) in
              let g : null_goes vars X h (x'.stack 0) x' ≡ true = search (and-fst, and-snd, k.0) in
              let p = null-forced vars x x' u h (cur h) (acc h) w X (x.stack 0) (x'.stack 0) (u.stack 0 e) g k.1.1 in
              let q = replaced-forced vars x x' y y' u v (field_entry d) (leb-true 1 x'.depth b) k.1.0 (goes-forced (x'.stack 0) o) in
              record {
                variable = λ j s. null_has _ _ (x'.variable j) (x.stack 0) (λ t. (p t).variable j s) (q.variable j s);
                stack = λ j s. null_has _ _ (x'.stack j) (x.stack 0) (λ t. (p t).stack j s) (q.stack j s);
              }

          get_holds : rule_holds vars (get_rule vars X c d h x' y' (acc h)) ≡ true → Met P vars cur l (Get c f (record { 0 = h })) x → rule_holds vars (get_rule vars X c d h x y (cur h)) ≡ true
          unfolding get_rule owner_goes
          get_holds r m =
              let k = held vars (get_rule vars X c d h x' y' (acc h)) r in
              let b : leb 1 x'.depth ≡ true = search (and-fst, and-snd, k.0) in
              let e : 1 ≤ x.depth = omega (arith, leb-true 1 x'.depth b, u.depth) in
              let o : may_go (x'.stack 0) ≡ true = search (and-fst, and-snd, k.0) in
              let i : may_be_of c (x'.stack 0) ≡ true = search (and-fst, and-snd, k.0) in
              let g : null_goes vars X h (x'.stack 0) x' ≡ true = search (and-fst, and-snd, k.0) in
              let n : AllHave vars x.depth (kept y) (taken gone 1 (λ j. y.stack (suc j))) x = record { variable = λ j s. null-right _ _ (x.variable j) (x.stack 0) (m.variable j s); stack = λ j s. null-right _ _ (x.stack j) (x.stack 0) (m.stack j s) } in
              let p = null-holds vars x x' u h (cur h) (acc h) w X (x.stack 0) (x'.stack 0) (u.stack 0 e) g k.1.1
              (λ t. record { variable = λ j s. null-left _ _ (x.variable j) (x.stack 0) (m.variable j s) t; stack = λ j s. null-left _ _ (x.stack j) (x.stack 0) (m.stack j s) t }) in
              let top = replaced-top vars x x' y y' u v (field_entry d) (leb-true 1 x'.depth b) k.1.0 n in
              holds vars (get_rule vars X c d h x y (cur h))
              (and_both _ _ (and_both _ _ (le-leb 1 x.depth e) (and_both _ _ (may-be-under (u.stack 0 e) c i) (goes-holds (u.stack 0 e) o top))) p.0)
              (replaced-holds vars x x' y y' u v (field_entry d) (leb-true 1 x'.depth b) k.1.0 n, p.1)

          put-forced : rule_holds vars (put_rule vars X c d h x' y' (acc h)) ≡ true → Met P vars cur l (Put c f (record { 0 = h })) x'
          unfolding put_rule owner_goes
          put-forced r =
              let k = held vars (put_rule vars X c d h x' y' (acc h)) r in
              let b : leb 2 x'.depth ≡ true = search (and-fst, and-snd, k.0) in
              let e : 2 ≤ x.depth = omega (arith, leb-true 2 x'.depth b, u.depth) in
              let s : may_go (x'.stack 0) ≡ true = search (and-fst, and-snd, k.0) in
              let o : may_go (x'.stack 1) ≡ true = search (and-fst, and-snd, k.0) in
              let g : null_goes vars X h (x'.stack 1) x' ≡ true = search (and-fst, and-snd, k.0) in
              let p = null-forced vars x x' u h (cur h) (acc h) w X (x.stack 1) (x'.stack 1) (u.stack 1 (omega arith)) g k.1.1 in
              let q = popped-forced vars x x' y y' u v 2 (leb-true 2 x'.depth b) k.1.0 (two-only (λ j. Has gone (x'.stack j)) (goes-forced (x'.stack 0) s) (goes-forced (x'.stack 1) o)) in
              record {
                variable = λ j s. null_has _ _ (x'.variable j) (x.stack 1) (λ t. (p t).variable j s) (q.variable j s);
                stack = λ j s. null_has _ _ (x'.stack j) (x.stack 1) (λ t. (p t).stack j s) (q.stack j s);
              }

          put_holds : rule_holds vars (put_rule vars X c d h x' y' (acc h)) ≡ true → Met P vars cur l (Put c f (record { 0 = h })) x → rule_holds vars (put_rule vars X c d h x y (cur h)) ≡ true
          unfolding put_rule owner_goes
          put_holds r m =
              let k = held vars (put_rule vars X c d h x' y' (acc h)) r in
              let b : leb 2 x'.depth ≡ true = search (and-fst, and-snd, k.0) in
              let e : 2 ≤ x.depth = omega (arith, leb-true 2 x'.depth b, u.depth) in
              let a : matches_field d (x'.stack 0) ≡ true = search (and-fst, and-snd, k.0) in
              let s : may_go (x'.stack 0) ≡ true = search (and-fst, and-snd, k.0) in
              let o : may_go (x'.stack 1) ≡ true = search (and-fst, and-snd, k.0) in
              let i : may_be_of c (x'.stack 1) ≡ true = search (and-fst, and-snd, k.0) in
              let g : null_goes vars X h (x'.stack 1) x' ≡ true = search (and-fst, and-snd, k.0) in
              let n : AllHave vars x.depth (kept y) (taken gone 2 y.stack) x = record { variable = λ j s. null-right _ _ (x.variable j) (x.stack 1) (m.variable j s); stack = λ j s. null-right _ _ (x.stack j) (x.stack 1) (m.stack j s) } in
              let p = null-holds vars x x' u h (cur h) (acc h) w X (x.stack 1) (x'.stack 1) (u.stack 1 (omega arith)) g k.1.1
              (λ t. record { variable = λ j s. null-left _ _ (x.variable j) (x.stack 1) (m.variable j s) t; stack = λ j s. null-left _ _ (x.stack j) (x.stack 1) (m.stack j s) t }) in
              let top = popped-top vars x x' y y' u v 2 (leb-true 2 x'.depth b) k.1.0 n in
              holds vars (put_rule vars X c d h x y (cur h))
              (and_both _ _
              (and_both _ _ (and_both _ _ (le-leb 2 x.depth e) (and_both _ _ (field-under (u.stack 0 (omega arith)) d a) (goes-holds (u.stack 0 (omega arith)) s (top 0 (omega arith)))))
              (and_both _ _ (may-be-under (u.stack 1 (omega arith)) c i) (goes-holds (u.stack 1 (omega arith)) o (top 1 (omega arith))))) p.0)
              (popped-holds vars x x' y y' u v 2 (leb-true 2 x'.depth b) k.1.0 n, p.1)

  -- every instruction that keeps to the table, whatever the rows
  module _ (classes : ℕ) (fields : ℕ → ℕ) (code : ℕ) (low : 1 ≤ l) (high : l ≤ code) (rows : (m : ℕ) → 1 ≤ m → m ≤ code → UnderRow vars (cur m) (acc m)) where
    here : UnderRow vars x x'
    here = rows l low high

    next : l < code → UnderRow vars y y'
    next k = rows (l + 1) (omega arith) (omega arith)

    handler : (h : ℕ) → h ≤ code → (h ≡ 0 → ⊥) → UnderRow vars (cur h) (acc h)
    handler h k z = rows h (omega arith) k

    pub step : (i : Instruction) → InstructionFits classes fields vars code l i → Step i
    step Inc k = inc-step here (next k)
    step Pop k = pop_step here (next k)
    step Push0 k = push0-step here (next k)
    step (Load v) k = record { forced = load-forced here (next k.1) v.0 k.0; holds = load-holds here (next k.1) v.0 k.0 }
    step (Store v) k = record { forced = store-forced here (next k.1) v.0 k.0; holds = store-holds here (next k.1) v.0 k.0 }
    step (If a) k =
        let z = rows a.0 k.0.0 k.0.1 in
        record { forced = if-forced here (next k.1) a.0 z; holds = if-holds here (next k.1) a.0 z }
    step (Enter v h) k =
        let z = handler h.0 k.1 in
        record { forced = enter-forced here (next k.2) h.0 z v.0 k.0; holds = enter-holds here (next k.2) h.0 z v.0 k.0 }
    step (Exit v) k = record { forced = exit-forced here (next k.1) v.0 k.0; holds = exit-holds here (next k.1) v.0 k.0 }
    step (New c h) k =
        let z = handler h.0 k.1 in
        record { forced = new-forced here (next k.2) h.0 z c; holds = new-holds here (next k.2) h.0 z c }
    step (Start c) k = start-step here (next k.1) c
    step (Throw h) k =
        let z = handler h.0 k in
        record { forced = throw-forced here h.0 z; holds = throw-holds here h.0 z }
    step Return k = return-step here
    step (Get c f h) k =
        let z = handler h.0 k.2 in
        record { forced = get-forced here (next k.3) h.0 z c f; holds = get_holds here (next k.3) h.0 z c f }
    step (Put c f h) k =
        let z = handler h.0 k.2 in
        record { forced = put-forced here (next k.3) h.0 z c f; holds = put_holds here (next k.3) h.0 z c f }
    step Nothing k = absurd k
