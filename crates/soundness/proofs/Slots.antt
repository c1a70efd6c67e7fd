-- A row as 32 slots: slot i below 16 is variable i, slot 16 + p the stack's place p from the bottom. `Blank` where there is no such place. What the rules' shared words say of slots.
use Prim.Native.Nat.{ℕ, suc, ◌+◌, ◌-◌, ◌≤◌, ◌<◌}
use mathlib.Core.Path.{◌≡◌, refl, sym, ◌∙◌}
use mathlib.Core.Logic.{◌≢◌}
use mathlib.Core.Bool.{true}
use native.Mathlib.Omega.{arith}
use native.Mathlib.Decide.{dec_lt}
use borrow.Author.Tests.{eq-eqb, ne_eqb, lt-ltb, le-ltb}
use Rattle.ground.proofs.Bounded.{all-elim}
use Rattle.entries.specs.Entries.{Entry, Blank, no_end, end_of}
use Rattle.rows.specs.Rows.{Row}
use Rattle.matching.specs.Matching.{popped, pushed, stored, wants, edge, var_goes, vars_go, entry_goes, stack_goes}
use Rattle.soundness.specs.Balance.{slot_of}
use Rattle.rules.proofs.Held.{Fits}
use Rattle.soundness.proofs.Weights.{Weaker, same-weaker, meets-weaker, goes_end}

module _ (vars : ℕ) (v16 : vars ≤ 16) (x : Row) where
  pub slot-var : (s : ℕ) → s < vars → slot_of vars x s ≡ x.variable s
  unfolding slot_of
  slot-var s h = rw (lt-ltb s 16 (omega arith), lt-ltb s vars h)

  pub slot-novar : (s : ℕ) → vars ≤ s → s < 16 → slot_of vars x s ≡ Blank
  unfolding slot_of
  slot-novar s h g = rw (lt-ltb s 16 g, le-ltb s vars h)

  -- stack entry j, from the top, stands at slot s
  pub slot-stack : (s j : ℕ) → 16 ≤ s → s + j + 1 ≡ 16 + x.depth → slot_of vars x s ≡ x.stack j
  unfolding slot_of
  slot-stack s j h g =
      let q : x.depth - (s - 16) - 1 ≡ j = omega arith in
      rw (le-ltb s 16 h, lt-ltb (s - 16) x.depth (omega arith), q)

  pub slot-nostack : (s : ℕ) → 16 + x.depth ≤ s → slot_of vars x s ≡ Blank
  unfolding slot_of
  slot-nostack s g = rw (le-ltb s 16 (omega arith), le-ltb (s - 16) x.depth (omega arith))

  -- what holds of every entry in use and of Blank holds of every slot
  pub slot-each : (Q : Entry → Type 0) → Q Blank → ((i : ℕ) → i < vars → Q (x.variable i)) → ((j : ℕ) → j < x.depth → Q (x.stack j))
      → (s : ℕ) → Q (slot_of vars x s)
  slot-each Q b p q s = go (dec_lt s vars) (dec_lt s 16) (dec_lt s (16 + x.depth))
    where
      stk : (j : ℕ) → 16 ≤ s → s + j + 1 ≡ 16 + x.depth → Q (slot_of vars x s)
      stk j h e = rw (slot-stack s j h e) (q j (omega arith))

      go : Dec (s < vars) → Dec (s < 16) → Dec (s < 16 + x.depth) → Q (slot_of vars x s)
      go (yes k) d e = rw (slot-var s k) (p s k)
      go (no k) (yes d) e = rw (slot-novar s (omega arith) d) b
      go (no k) (no d) (yes e) = stk (15 + x.depth - s) (omega arith) (omega arith)
      go (no k) (no d) (no e) = rw (slot-nostack s (omega arith)) b

-- ---- the row after an instruction, by slots: as `Values` has the thread after it
module _ (vars : ℕ) (v16 : vars ≤ 16) (x : Row) where
  pub slot-popped : (a s : ℕ) → a ≤ x.depth → s < 16 + (x.depth - a) → slot_of vars (popped a x) s ≡ slot_of vars x s
  slot-popped a s e h = go (dec_lt s vars) (dec_lt s 16)
    where
      stk : (j : ℕ) → 16 ≤ s → s + j + 1 ≡ 16 + (x.depth - a) → slot_of vars (popped a x) s ≡ slot_of vars x s
      stk j k q = slot-stack vars v16 (popped a x) s j k q ∙ sym (slot-stack vars v16 x s (a + j) k (omega arith))

      go : Dec (s < vars) → Dec (s < 16) → slot_of vars (popped a x) s ≡ slot_of vars x s
      go (yes k) d = slot-var vars v16 (popped a x) s k ∙ sym (slot-var vars v16 x s k)
      go (no k) (yes d) = slot-novar vars v16 (popped a x) s (omega arith) d ∙ sym (slot-novar vars v16 x s (omega arith) d)
      go (no k) (no d) = stk (15 + (x.depth - a) - s) (omega arith) (omega arith)

  pub slot_pushed : (e : Entry) (s : ℕ) → s ≡ 16 + x.depth → slot_of vars (pushed e x) s ≡ e
  slot_pushed e s q = slot-stack vars v16 (pushed e x) s 0 (omega arith) (omega arith)

  pub slot-pushed-other : (e : Entry) (s : ℕ) → s ≢ 16 + x.depth → slot_of vars (pushed e x) s ≡ slot_of vars x s
  slot-pushed-other e s n = go (dec_lt s vars) (dec_lt s 16) (dec_lt s (16 + x.depth))
    where
      stk : (j : ℕ) → 16 ≤ s → s + j + 1 ≡ 16 + x.depth → slot_of vars (pushed e x) s ≡ slot_of vars x s
      stk j k q = slot-stack vars v16 (pushed e x) s (suc j) k (omega arith) ∙ sym (slot-stack vars v16 x s j k q)

      go : Dec (s < vars) → Dec (s < 16) → Dec (s < 16 + x.depth) → slot_of vars (pushed e x) s ≡ slot_of vars x s
      go (yes k) d f = slot-var vars v16 (pushed e x) s k ∙ sym (slot-var vars v16 x s k)
      go (no k) (yes d) f = slot-novar vars v16 (pushed e x) s (omega arith) d ∙ sym (slot-novar vars v16 x s (omega arith) d)
      go (no k) (no d) (yes f) = stk (15 + x.depth - s) (omega arith) (omega arith)
      go (no k) (no d) (no f) = slot-nostack vars v16 (pushed e x) s (omega arith) ∙ sym (slot-nostack vars v16 x s (omega arith))

  pub slot-stored : (v : ℕ) (e : Entry) → v < vars → slot_of vars (stored v e x) v ≡ e
  slot-stored v e l = rw (slot-var vars v16 (stored v e x) v l, eq-eqb v v refl)

  pub slot-stored-other : (v : ℕ) (e : Entry) (s : ℕ) → s ≢ v → slot_of vars (stored v e x) s ≡ slot_of vars x s
  unfolding slot_of
  slot-stored-other v e s n = rw (ne_eqb s v n)

-- ---- THE FITTING LAW: along an edge that fits, every slot asks no more than it did
pub fits-weaker : (vars : ℕ) (x y : Row) → vars ≤ 16 → Fits vars (edge x (wants y)) → (s : ℕ) → Weaker (slot_of vars x s) (slot_of vars y s)
fits-weaker vars x y v16 f s = go (dec_lt s vars) (dec_lt s 16) (dec_lt s (16 + x.depth))
  where
    stk : (j : ℕ) → 16 ≤ s → s + j + 1 ≡ 16 + x.depth → Weaker (slot_of vars x s) (slot_of vars y s)
    stk j k q =
        rw (slot-stack vars v16 x s j k q, slot-stack vars v16 y s j k (omega (arith, f.depths)))
        (meets-weaker (x.stack j) (y.stack j) (f.entries j (omega arith)))

    go : Dec (s < vars) → Dec (s < 16) → Dec (s < 16 + x.depth) → Weaker (slot_of vars x s) (slot_of vars y s)
    go (yes k) d e = rw (slot-var vars v16 x s k, slot-var vars v16 y s k) (meets-weaker (x.variable s) (y.variable s) (f.variables s k))
    go (no k) (yes d) e = rw (slot-novar vars v16 x s (omega arith) d, slot-novar vars v16 y s (omega arith) d) (same-weaker Blank)
    go (no k) (no d) (yes e) = stk (15 + x.depth - s) (omega arith) (omega arith)
    go (no k) (no d) (no e) = rw (slot-nostack vars v16 x s (omega arith), slot-nostack vars v16 y s (omega (arith, f.depths))) (same-weaker Blank)

-- ---- all may go
module _ (vars : ℕ) (v16 : vars ≤ 16) (x : Row) where
  pub stack_end : stack_goes x ≡ true → (s : ℕ) → 16 ≤ s → no_end ≤ end_of (slot_of vars x s)
  unfolding stack_goes
  stack_end g s h = go (dec_lt s (16 + x.depth))
    where
      stk : (j : ℕ) → s + j + 1 ≡ 16 + x.depth → no_end ≤ end_of (slot_of vars x s)
      stk j e = rw (slot-stack vars v16 x s j h e) (goes_end (x.stack j) (all-elim (entry_goes x) x.depth g j (omega arith)))

      go : Dec (s < 16 + x.depth) → no_end ≤ end_of (slot_of vars x s)
      go (yes k) = stk (15 + x.depth - s) (omega arith)
      go (no k) = rw (slot-nostack vars v16 x s (omega arith)) (omega arith)

  pub all_end : vars_go vars x ≡ true → stack_goes x ≡ true → (s : ℕ) → no_end ≤ end_of (slot_of vars x s)
  unfolding vars_go stack_goes
  all_end vg sg =
      slot-each vars v16 x (λ (e : Entry). no_end ≤ end_of e) (omega arith)
      (λ i l. goes_end (x.variable i) (all-elim (var_goes x) vars vg i l))
      (λ j l. goes_end (x.stack j) (all-elim (entry_goes x) x.depth sg j l))
