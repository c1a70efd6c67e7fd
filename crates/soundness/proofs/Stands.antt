-- A thread that stands at a row: its values against the row's entries. One law of transfer for each change that a step makes to thread and row alike, and the fitting law that takes a thread along an edge.
use Prim.Native.Nat.{ℕ, zero, suc, ◌+◌, ◌-◌, ◌≤◌, ◌<◌}
use mathlib.Core.Path.{◌≡◌, refl, sym, ap, ◌∙◌}
use mathlib.Core.Logic.{◌≢◌}
use mathlib.Core.Bool.{Bool, true, false, cond}
use native.Mathlib.Omega.{arith}
use native.Mathlib.Decide.{ℕ_discrete, dec_lt}
use lib.Dec.{eqb}
use lib.ListN.{length, set, length-set}
use borrow.Author.Tests.{eqb-true, eqb-false, eq-eqb, ne_eqb}
use Rattle.ground.specs.Bounded.{fill_from}
use Rattle.ground.proofs.Bools.{and-fst, and-snd}
use Rattle.ground.proofs.Writes.{fill-length}
use Rattle.entries.specs.Entries.{Entry, Blank, no_end, dip_of, end_of, is_reference}
use Rattle.entries.specs.Fits.{Want, takes, want, want_entered, want_exited, want_both}
use Rattle.entries.proofs.Types.{fits-itself}
use Rattle.rows.specs.Rows.{Row}
use Rattle.matching.specs.Matching.{wants, wants_at, wants_loaded, edge}
use Rattle.matching.specs.Matching as rows
use Rattle.values.specs.declared.Slot.{Slot}
use Rattle.values.specs.declared.Value.{Value}
use Rattle.values.specs.Values.{zero_slot, is_ref, object_of}
use Rattle.threads.specs.declared.Thread.{Thread}
use Rattle.threads.specs.Threads.{from_top, top_of, var_of, topped, pushed, popped, stored}
use Rattle.soundness.specs.Balance.{Matches, names, Balanced, slot_of, value_in, value_of, Stands}
use Rattle.rules.proofs.Held.{Meets, Fits, compared}
use Rattle.soundness.proofs.Kind.{takes-kind, ref_value}
use Rattle.soundness.proofs.Weights.{same-weaker, kept_slot, gone-slot, fresh-slot, light-slot}
use Rattle.soundness.proofs.Weights as weights
use Rattle.soundness.proofs.Balance.{keep_all, keep-move, keep-split, keep-enter, keep_exit, dip-held}
use Rattle.soundness.proofs.Slots.{slot-var, slot-stack, slot-nostack, slot-popped, slot_pushed, slot-pushed-other, slot-stored, slot-stored-other, fits-weaker}
use Rattle.soundness.proofs.Values.{value-var, value-entry, value_set, value-set-other, value-store, value-store-other, value-fill, pushed-is}

-- a slot that keeps its value, and its entry
same-slot : (n : ℕ) (cls : ℕ → ℕ) (e f : Entry) (v w : Value) → w ≡ v → f ≡ e → weights.Slot n cls e v f w
same-slot n cls e f v w q p = kept_slot n cls e f v w q (rw p (same-weaker e))

-- ---- THE FITTING LAW: along an edge
pub fit-stands : (vars : ℕ) → vars ≤ 16 → (n : ℕ) (cls k : ℕ → ℕ) (x y : Row) (t : Thread) → Fits vars (edge x (wants y)) → Stands vars n cls k x t → Stands vars n cls k y t
fit-stands vars v16 n cls k x y t f h =
    record {
      sized = h.sized;
      depth_exact = h.depth_exact ∙ f.depths;
      balanced = keep_all n cls (slot_of vars x) (value_of t) k (slot_of vars y) (value_of t)
          (λ s l. kept_slot n cls (slot_of vars x s) (slot_of vars y s) (value_of t s) (value_of t s) refl (fits-weaker vars x y v16 f s)) h.balanced;
    }

module _ (vars : ℕ) (v16 : vars ≤ 16) (n : ℕ) (cls k : ℕ → ℕ) (x : Row) (t : Thread) (d16 : t.depth ≤ 16) (h : Stands vars n cls k x t) where
  -- ---- what the row says of the values
  pub variable-kind : (v : ℕ) → v < vars → Matches n cls (x.variable v) (var_of t v).value
  variable-kind v l = rw (slot-var vars v16 x v l, value-var t v (omega arith)) at (h.balanced.kinds v (omega arith))

  pub entry-kind : (j : ℕ) → j < t.depth → Matches n cls (x.stack j) (from_top t j).value
  entry-kind j l = go (15 + t.depth - j) (omega arith)
    where
      go : (s : ℕ) → s + j + 1 ≡ 16 + t.depth → Matches n cls (x.stack j) (from_top t j).value
      go s q =
          rw (slot-stack vars v16 x s j (omega arith) (omega (arith, h.depth_exact)), value-entry t s j (omega arith) q)
          at (h.balanced.kinds s (omega arith))

  -- ---- a entries gone from the top
  pub pop-stands : (a : ℕ) → a ≤ x.depth → ((j : ℕ) → j < a → no_end ≤ end_of (x.stack j)) → Stands vars n cls k (rows.popped a x) (popped a t)
  unfolding popped
  pop-stands a e g =
      record {
        sized = record { vars = h.sized.vars; stack = fill-length (t.depth - a) zero_slot t.stack a ∙ h.sized.stack };
        depth_exact = ap (λ (d : ℕ). d - a) h.depth_exact;
        balanced = keep_all n cls (slot_of vars x) (value_of t) k (slot_of vars (rows.popped a x)) _ (λ s l. each s l (dec_lt s (16 + (x.depth - a)))) h.balanced;
      }
    where
      stk : (s j : ℕ) → 16 ≤ s → s + j + 1 ≡ 16 + x.depth → j < a → no_end ≤ end_of (slot_of vars x s)
      stk s j f q l = rw (slot-stack vars v16 x s j f q) (g j l)

      out : (s : ℕ) → 16 + (x.depth - a) ≤ s → Dec (s < 16 + x.depth) → no_end ≤ end_of (slot_of vars x s)
      out s f (yes e) = stk s (15 + x.depth - s) (omega arith) (omega arith) (omega arith)
      out s f (no e) = rw (slot-nostack vars v16 x s (omega arith)) (omega arith)

      each : (s : ℕ) → s < 32 → Dec (s < 16 + (x.depth - a))
          → weights.Slot n cls (slot_of vars x s) (value_of t s) (slot_of vars (rows.popped a x) s) (value_in t.vars (fill_from (t.depth - a) a zero_slot t.stack) s)
      each s l (yes f) = same-slot n cls _ _ _ _ (value-fill t.vars t.stack (t.depth - a) a s (omega (arith, h.depth_exact))) (slot-popped vars v16 x a s e f)
      each s l (no f) =
          rw (slot-nostack vars v16 (rows.popped a x) s (omega arith))
          (gone-slot n cls (slot_of vars x s) (value_of t s) _ (out s (omega arith) (dec_lt s (16 + x.depth))))

  -- ---- a value comes on the stack that weighs nothing, as the entry e
  pub push-stands : (u : Slot) (e : Entry) → t.depth < 16 → dip_of e ≡ 0 → end_of e ≡ no_end → Matches n cls e u.value → Stands vars n cls k (rows.pushed e x) (pushed t u)
  push-stands u e below ed ee m =
      rw (pushed-is t u below)
      (record {
        sized = record { vars = h.sized.vars; stack = length-set t.stack t.depth u ∙ h.sized.stack };
        depth_exact = ap (λ (d : ℕ). d + 1) h.depth_exact;
        balanced = keep_all n cls (slot_of vars x) (value_of t) k (slot_of vars (rows.pushed e x)) _ (λ s l. each s l (ℕ_discrete s (16 + t.depth))) h.balanced;
      })
    where
      each : (s : ℕ) → s < 32 → Dec (s ≡ 16 + t.depth)
          → weights.Slot n cls (slot_of vars x s) (value_of t s) (slot_of vars (rows.pushed e x) s) (value_in t.vars (set t.stack t.depth u) s)
      each s l (yes q) =
          rw (
            slot-nostack vars v16 x s (omega (arith, h.depth_exact)),
            slot_pushed vars v16 x e s (omega (arith, h.depth_exact)),
            value_set t.vars t.stack t.depth s u (omega (arith, h.sized.stack)) q,
          )
          (fresh-slot n cls (value_of t s) e e u.value ed ee m (same-weaker e))
      each s l (no q) =
          same-slot n cls _ _ _ _ (value-set-other t.vars t.stack t.depth s u q)
          (slot-pushed-other vars v16 x e s (λ p. q (omega (arith, h.depth_exact))))

  -- ---- athrow: the top alone stays, at the bottom; all below it may go
  pub throw-stands : 1 ≤ x.depth → ((j : ℕ) → 1 ≤ j → j < x.depth → no_end ≤ end_of (x.stack j))
      → Stands vars n cls k (rows.pushed (x.stack 0) (rows.popped t.depth x)) (pushed (popped t.depth t) (top_of t))
  unfolding popped
  throw-stands en g =
      rw (pushed-is (popped t.depth t) (top_of t) (omega arith))
      (record {
        sized = record { vars = h.sized.vars; stack = length-set (fill_from (t.depth - t.depth) t.depth zero_slot t.stack) (t.depth - t.depth) (top_of t) ∙ filled };
        depth_exact = omega (arith, h.depth_exact);
        balanced = go (ℕ_discrete t.depth 1);
      })
    where
      y : Row
      y = rows.pushed (x.stack 0) (rows.popped t.depth x)

      after : ℕ → Value
      after = value_in t.vars (set (fill_from (t.depth - t.depth) t.depth zero_slot t.stack) (t.depth - t.depth) (top_of t))

      filled : length (fill_from (t.depth - t.depth) t.depth zero_slot t.stack) ≡ 16
      filled = fill-length (t.depth - t.depth) zero_slot t.stack t.depth ∙ h.sized.stack

      stk : (s j : ℕ) → 16 ≤ s → s + j + 1 ≡ 16 + x.depth → 1 ≤ j → no_end ≤ end_of (slot_of vars x s)
      stk s j f q l = rw (slot-stack vars v16 x s j f q) (g j l (omega arith))

      -- what is not the top may go
      out : (s : ℕ) → 16 ≤ s → s ≢ 15 + t.depth → Dec (s < 16 + x.depth) → no_end ≤ end_of (slot_of vars x s)
      out s f b (yes e) = stk s (15 + x.depth - s) f (omega arith) (omega (arith, h.depth_exact))
      out s f b (no e) = rw (slot-nostack vars v16 x s (omega arith)) (omega arith)

      bottom : slot_of vars y 16 ≡ x.stack 0
      bottom = slot_pushed vars v16 (rows.popped t.depth x) (x.stack 0) 16 (omega (arith, h.depth_exact))

      top : slot_of vars x (15 + t.depth) ≡ x.stack 0
      top = slot-stack vars v16 x (15 + t.depth) 0 (omega (arith, h.depth_exact)) (omega (arith, h.depth_exact))

      value : after 16 ≡ value_of t (15 + t.depth)
      value =
          value_set t.vars (fill_from (t.depth - t.depth) t.depth zero_slot t.stack) (t.depth - t.depth) 16 (top_of t) (omega (arith, filled)) (omega arith)
          ∙ sym (value-entry t (15 + t.depth) 0 (omega (arith, h.depth_exact)) (omega arith))

      each : (s : ℕ) → s < 32 → s ≢ 16 → s ≢ 15 + t.depth → Dec (s < 16) → weights.Slot n cls (slot_of vars x s) (value_of t s) (slot_of vars y s) (after s)
      each s l a b (yes f) =
          same-slot n cls _ _ _ _
          (value-set-other t.vars (fill_from (t.depth - t.depth) t.depth zero_slot t.stack) (t.depth - t.depth) s (top_of t) (omega arith)
          ∙ value-fill t.vars t.stack (t.depth - t.depth) t.depth s (omega arith))
          (slot-pushed-other vars v16 (rows.popped t.depth x) (x.stack 0) s (omega arith) ∙ slot-popped vars v16 x t.depth s (omega (arith, h.depth_exact)) (omega arith))
      each s l a b (no f) =
          rw (slot-nostack vars v16 y s (omega (arith, h.depth_exact)))
          (gone-slot n cls (slot_of vars x s) (value_of t s) _ (out s (omega arith) b (dec_lt s (16 + x.depth))))

      one : t.depth ≡ 1 → (s : ℕ) → s < 32 → Dec (s ≡ 16) → weights.Slot n cls (slot_of vars x s) (value_of t s) (slot_of vars y s) (after s)
      one d s l (yes q) =
          let p : 15 + t.depth ≡ 16 = omega arith in
          rw q (same-slot n cls _ _ _ _ (rw p at value) (bottom ∙ sym (rw p at top)))
      one d s l (no q) = each s l q (omega arith) (dec_lt s 16)

      go : Dec (t.depth ≡ 1) → Balanced n cls (slot_of vars y) after k
      go (yes d) = keep_all n cls (slot_of vars x) (value_of t) k (slot_of vars y) after (λ s l. one d s l (ℕ_discrete s 16)) h.balanced
      go (no d) =
          keep-move n cls (slot_of vars x) (value_of t) k (slot_of vars y) after 16 (15 + t.depth) (omega (arith, h.depth_exact)) (omega arith)
          (λ s l a b. each s l a b (dec_lt s 16)) value
          (slot-nostack vars v16 y (15 + t.depth) (omega (arith, h.depth_exact)))
          (out 16 (omega arith) (omega (arith, h.depth_exact)) (dec_lt 16 (16 + x.depth)))
          (rw (top, bottom) (same-weaker (x.stack 0)))
          h.balanced

  -- ---- inc and getfield: the top, which may go, becomes u, as the entry e, which weighs nothing
  pub top-stands : (u : Slot) (e : Entry) → 1 ≤ x.depth → no_end ≤ end_of (x.stack 0) → dip_of e ≡ 0 → end_of e ≡ no_end
      → (Matches n cls (x.stack 0) (top_of t).value → Matches n cls e u.value) → Stands vars n cls k (rows.pushed e (rows.popped 1 x)) (topped t u)
  unfolding topped
  top-stands u e en g ed ee m =
      record {
        sized = record { vars = h.sized.vars; stack = length-set t.stack (t.depth - 1) u ∙ h.sized.stack };
        depth_exact = omega (arith, h.depth_exact);
        balanced = keep_all n cls (slot_of vars x) (value_of t) k (slot_of vars (rows.pushed e (rows.popped 1 x))) _ (λ s l. each s l (ℕ_discrete s (15 + t.depth)) (dec_lt s (15 + t.depth))) h.balanced;
      }
    where
      each : (s : ℕ) → s < 32 → Dec (s ≡ 15 + t.depth) → Dec (s < 15 + t.depth)
          → weights.Slot n cls (slot_of vars x s) (value_of t s) (slot_of vars (rows.pushed e (rows.popped 1 x)) s) (value_in t.vars (set t.stack (t.depth - 1) u) s)
      each s l (yes q) d =
          rw (
            slot-stack vars v16 x s 0 (omega (arith, h.depth_exact)) (omega (arith, h.depth_exact)),
            slot_pushed vars v16 (rows.popped 1 x) e s (omega (arith, h.depth_exact)),
            value_set t.vars t.stack (t.depth - 1) s u (omega (arith, h.sized.stack, h.depth_exact)) (omega (arith, h.depth_exact)),
            value-entry t s 0 (omega (arith, h.depth_exact)) (omega arith),
          )
          (light-slot n cls (x.stack 0) e (top_of t).value u.value g ed (omega arith) m)
      each s l (no q) (yes d) =
          same-slot n cls _ _ _ _ (value-set-other t.vars t.stack (t.depth - 1) s u (λ p. q (omega (arith, h.depth_exact))))
          (slot-pushed-other vars v16 (rows.popped 1 x) e s (λ p. q (omega (arith, h.depth_exact))) ∙ slot-popped vars v16 x 1 s en (omega (arith, h.depth_exact)))
      each s l (no q) (no d) =
          same-slot n cls _ _ _ _ (value-set-other t.vars t.stack (t.depth - 1) s u (λ p. q (omega (arith, h.depth_exact))))
          (slot-nostack vars v16 (rows.pushed e (rows.popped 1 x)) s (omega (arith, h.depth_exact)) ∙ sym (slot-nostack vars v16 x s (omega (arith, h.depth_exact))))

  -- ---- monitorenter on what may be null, and isn't: the variable v, which may go, counts as the entry e, which weighs nothing
  pub as-stands : (v : ℕ) (e : Entry) → v < vars → no_end ≤ end_of (x.variable v) → dip_of e ≡ 0 → end_of e ≡ no_end
      → (Matches n cls (x.variable v) (var_of t v).value → Matches n cls e (var_of t v).value) → Stands vars n cls k (rows.stored v e x) t
  as-stands v e lv g ed ee m =
      record {
        sized = h.sized;
        depth_exact = h.depth_exact;
        balanced = keep_all n cls (slot_of vars x) (value_of t) k (slot_of vars (rows.stored v e x)) (value_of t) (λ s l. each s (ℕ_discrete s v)) h.balanced;
      }
    where
      each : (s : ℕ) → Dec (s ≡ v) → weights.Slot n cls (slot_of vars x s) (value_of t s) (slot_of vars (rows.stored v e x) s) (value_of t s)
      each s (yes q) =
          rw (q, slot-var vars v16 x v lv, slot-stored vars v16 x v e lv, value-var t v (omega arith))
          (light-slot n cls (x.variable v) e (var_of t v).value (var_of t v).value g ed (omega arith) m)
      each s (no q) = same-slot n cls _ _ _ _ refl (slot-stored-other vars v16 x v e s q)

  -- ---- store: the top moves to the variable v
  pub store-stands : (v : ℕ) → v < vars → 1 ≤ x.depth → no_end ≤ end_of (x.variable v)
      → Stands vars n cls k (rows.popped 1 (rows.stored v (x.stack 0) x)) (popped 1 (stored t v (top_of t)))
  unfolding popped stored
  store-stands v lv en g =
      record {
        sized = record {
          vars = length-set t.vars v (top_of t) ∙ h.sized.vars;
          stack = fill-length (t.depth - 1) zero_slot t.stack 1 ∙ h.sized.stack;
        };
        depth_exact = ap (λ (d : ℕ). d - 1) h.depth_exact;
        balanced = keep-move n cls (slot_of vars x) (value_of t) k (slot_of vars (rows.popped 1 (rows.stored v (x.stack 0) x))) _ v (15 + t.depth) (omega (arith, h.depth_exact)) (omega arith)
            (λ s l a b. each s l a b (dec_lt s (15 + t.depth)))
            (value-fill (set t.vars v (top_of t)) t.stack (t.depth - 1) 1 v (omega arith)
            ∙ value-store t.vars t.stack v (top_of t) (omega arith) (omega (arith, h.sized.vars))
            ∙ sym (value-entry t (15 + t.depth) 0 (omega (arith, h.depth_exact)) (omega arith)))
            (slot-nostack vars v16 (rows.popped 1 (rows.stored v (x.stack 0) x)) (15 + t.depth) (omega (arith, h.depth_exact)))
            (rw (slot-var vars v16 x v lv) g)
            (rw (slot-stack vars v16 x (15 + t.depth) 0 (omega (arith, h.depth_exact)) (omega (arith, h.depth_exact)), low v (omega (arith, h.depth_exact)), slot-stored vars v16 x v (x.stack 0) lv) (same-weaker (x.stack 0)))
            h.balanced;
      }
    where
      low : (s : ℕ) → s < 15 + t.depth → slot_of vars (rows.popped 1 (rows.stored v (x.stack 0) x)) s ≡ slot_of vars (rows.stored v (x.stack 0) x) s
      low s l = slot-popped vars v16 (rows.stored v (x.stack 0) x) 1 s en (omega (arith, h.depth_exact))

      each : (s : ℕ) → s < 32 → s ≢ v → s ≢ 15 + t.depth → Dec (s < 15 + t.depth)
          → weights.Slot n cls (slot_of vars x s) (value_of t s) (slot_of vars (rows.popped 1 (rows.stored v (x.stack 0) x)) s) (value_in (set t.vars v (top_of t)) (fill_from (t.depth - 1) 1 zero_slot t.stack) s)
      each s l a b (yes e) =
          same-slot n cls _ _ _ _ (value-fill (set t.vars v (top_of t)) t.stack (t.depth - 1) 1 s (omega arith) ∙ value-store-other t.vars t.stack v s (top_of t) a)
          (low s e ∙ slot-stored-other vars v16 x v (x.stack 0) s a)
      each s l a b (no e) =
          rw (slot-nostack vars v16 x s (omega (arith, h.depth_exact)), slot-nostack vars v16 (rows.popped 1 (rows.stored v (x.stack 0) x)) s (omega (arith, h.depth_exact)))
          (gone-slot n cls Blank (value_of t s) _ (omega arith))

  -- ---- load of a reference: what the variable v offers is split over y and the new top z
  pub split-stands : (v : ℕ) (y z : Entry) → v < vars → t.depth < 16 → Meets (x.variable v) (want_both y z)
      → Stands vars n cls k (rows.pushed z (rows.stored v y x)) (pushed t (var_of t v))
  split-stands v y z lv below m =
      rw (pushed-is t (var_of t v) below)
      (record {
        sized = record { vars = h.sized.vars; stack = length-set t.stack t.depth (var_of t v) ∙ h.sized.stack };
        depth_exact = ap (λ (d : ℕ). d + 1) h.depth_exact;
        balanced = keep-split n cls (slot_of vars x) (value_of t) k (slot_of vars (rows.pushed z (rows.stored v y x))) _ v (16 + t.depth) (omega arith) (omega arith)
            each
            (value-set-other t.vars t.stack t.depth v (var_of t v) (omega arith))
            (value_set t.vars t.stack t.depth (16 + t.depth) (var_of t v) (omega (arith, h.sized.stack)) refl ∙ sym (value-var t v (omega arith)))
            (slot-nostack vars v16 x (16 + t.depth) (omega (arith, h.depth_exact)))
            (rw (sx, sy) (takes-kind n cls y (x.variable v) (value_of t v) (and-fst (takes y (x.variable v)) (takes z (x.variable v)) m.kind)))
            (rw (sx, sz) (takes-kind n cls z (x.variable v) (value_of t v) (and-snd (takes y (x.variable v)) (takes z (x.variable v)) m.kind)))
            (rw (sx, sy, sz) m.dip)
            (rw (sx, sy, sz) (omega (arith, m.end)))
            h.balanced;
      })
    where
      sx : slot_of vars x v ≡ x.variable v
      sx = slot-var vars v16 x v lv

      sy : slot_of vars (rows.pushed z (rows.stored v y x)) v ≡ y
      sy = slot-pushed-other vars v16 (rows.stored v y x) z v (omega arith) ∙ slot-stored vars v16 x v y lv

      sz : slot_of vars (rows.pushed z (rows.stored v y x)) (16 + t.depth) ≡ z
      sz = slot_pushed vars v16 (rows.stored v y x) z (16 + t.depth) (omega (arith, h.depth_exact))

      each : (s : ℕ) → s < 32 → s ≢ v → s ≢ 16 + t.depth
          → weights.Slot n cls (slot_of vars x s) (value_of t s) (slot_of vars (rows.pushed z (rows.stored v y x)) s) (value_in t.vars (set t.stack t.depth (var_of t v)) s)
      each s l a b =
          same-slot n cls _ _ _ _ (value-set-other t.vars t.stack t.depth s (var_of t v) b)
          (slot-pushed-other vars v16 (rows.stored v y x) z s (λ p. b (omega (arith, h.depth_exact))) ∙ slot-stored-other vars v16 x v y s a)

  -- ---- the variable v is a reference
  module _ (v : ℕ) (lv : v < vars) (ref : is_reference (x.variable v) ≡ true) where
    value : (is_ref (var_of t v) ≡ true) × (object_of (var_of t v) < n) × ((o : ℕ) → names o (value_of t v) ≡ eqb (object_of (var_of t v)) o)
    value =
        let r = ref_value n cls (x.variable v) (var_of t v).value ref (variable-kind v lv) in
        (r.0, r.1, λ o. ap (names o) (value-var t v (omega arith)) ∙ ap (names o) r.3)

    pub is-object : is_ref (var_of t v) ≡ true
    is-object = value.0

    pub object-known : object_of (var_of t v) < n
    object-known = value.1

    -- what the dip promises
    pub dip-promises : object_of (var_of t v) < 32 → dip_of (x.variable v) ≤ k (object_of (var_of t v))
    dip-promises l =
        rw (slot-var vars v16 x v lv)
        at (dip-held n cls (slot_of vars x) (value_of t) k h.balanced v (object_of (var_of t v)) (omega arith) l
        (value.2 (object_of (var_of t v)) ∙ eq-eqb (object_of (var_of t v)) (object_of (var_of t v)) refl))

    -- ---- a lock moves: the counts become m, and the variable's entry y
    module _ (y : Entry) (g : takes y (x.variable v) ≡ true) (m : ℕ → ℕ) (other : (o : ℕ) → o < 32 → o ≢ object_of (var_of t v) → m o ≡ k o) where
      sx : slot_of vars x v ≡ x.variable v
      sx = slot-var vars v16 x v lv

      sy : slot_of vars (rows.stored v y x) v ≡ y
      sy = slot-stored vars v16 x v y lv

      each : (s : ℕ) → s < 32 → s ≢ v → weights.Slot n cls (slot_of vars x s) (value_of t s) (slot_of vars (rows.stored v y x) s) (value_of t s)
      each s l a = same-slot n cls _ _ _ _ refl (slot-stored-other vars v16 x v y s a)

      kind : Matches n cls (slot_of vars x v) (value_of t v) → Matches n cls (slot_of vars (rows.stored v y x) v) (value_of t v)
      kind = rw (sx, sy) (takes-kind n cls y (x.variable v) (value_of t v) g)

      rest : (o : ℕ) → o < 32 → names o (value_of t v) ≡ false → m o ≡ k o
      rest o l f = other o l (λ p. eqb-false (object_of (var_of t v)) o (sym (value.2 o) ∙ f) (sym p))

      same : (o : ℕ) → names o (value_of t v) ≡ true → object_of (var_of t v) ≡ o
      same o f = eqb-true (object_of (var_of t v)) o (sym (value.2 o) ∙ f)

      moved : Balanced n cls (slot_of vars (rows.stored v y x)) (value_of t) m → Stands vars n cls m (rows.stored v y x) t
      moved b = record { sized = h.sized; depth_exact = h.depth_exact; balanced = b }

      pub enter-stands : m (object_of (var_of t v)) ≡ k (object_of (var_of t v)) + 1 → Meets (x.variable v) (want_entered y) → Stands vars n cls m (rows.stored v y x) t
      enter-stands up w =
          moved
          (keep-enter n cls (slot_of vars x) (value_of t) k (slot_of vars (rows.stored v y x)) (value_of t) m v (omega arith) each refl kind rest
          (λ o l f. rw (same o f) at up) (rw (sx, sy) (omega (arith, w.dip))) (rw (sx, sy) w.end) h.balanced)

      pub exit-stands : k (object_of (var_of t v)) ≡ m (object_of (var_of t v)) + 1 → Meets (x.variable v) (want_exited y) → Stands vars n cls m (rows.stored v y x) t
      exit-stands down w =
          moved
          (keep_exit n cls (slot_of vars x) (value_of t) k (slot_of vars (rows.stored v y x)) (value_of t) m v (omega arith) each refl kind rest
          (λ o l f. rw (same o f) at down) (rw (sx, sy) w.dip) (rw (sx, sy) (omega (arith, w.end))) h.balanced)

-- ---- edges on which an instruction says what is wanted: the offer that is left fits the row as it stands
meets-itself : (e : Entry) → Meets e (want e)
meets-itself e = compared e (want e) (fits-itself e)

-- v holds what the row reached has there
stored-fits : (vars v : ℕ) (x y : Row) → ((i : ℕ) → i < vars → i ≢ v → Meets (x.variable i) (want (y.variable i)))
    → (i : ℕ) → i < vars → Meets ((rows.stored v (y.variable v) x).variable i) (want (y.variable i))
stored-fits vars v x y f i l = go (eqb i v) refl
  where
    go : (b : Bool) → eqb i v ≡ b → Meets (cond b (y.variable v) (x.variable i)) (want (y.variable i))
    go true q = rw (eqb-true i v q) (meets-itself (y.variable v))
    go false q = f i l (eqb-false i v q)

module _ (vars v : ℕ) (x y : Row) (lv : v < vars) where
  -- monitorenter and monitorexit
  pub fits-at : (w : Want) → Fits vars (edge x (wants_at v w y)) → Meets (x.variable v) w × Fits vars (edge (rows.stored v (y.variable v) x) (wants y))
  fits-at w f = (
    rw (eq-eqb v v refl) at (f.variables v lv),
    record {
      depths = f.depths;
      variables = stored-fits vars v x y (λ i l a. rw (ne_eqb i v a) at (f.variables i l));
      entries = f.entries;
    },
  )

  -- load of a reference
  pub fits-split : is_reference (x.variable v) ≡ true → Fits vars (edge (rows.pushed (x.variable v) x) (wants_loaded v x y))
      → Meets (x.variable v) (want_both (y.variable v) (y.stack 0)) × Fits vars (edge (rows.pushed (y.stack 0) (rows.stored v (y.variable v) x)) (wants y))
  unfolding wants_loaded
  fits-split q f = (
    rw (q, eq-eqb v v refl) at (f.variables v lv),
    record {
      depths = f.depths;
      variables = stored-fits vars v x y (λ i l a. rw (q, ne_eqb i v a) at (f.variables i l));
      entries = each;
    },
  )
    where
      each : (j : ℕ) → j < x.depth + 1 → Meets (rows.under (y.stack 0) x.stack j) (want (y.stack j))
      each zero l = meets-itself (y.stack 0)
      each (suc j) l = rw q at (f.entries (suc j) l)

  -- load of anything else
  pub fits-plain : is_reference (x.variable v) ≡ false → Fits vars (edge (rows.pushed (x.variable v) x) (wants_loaded v x y)) → Fits vars (edge (rows.pushed (x.variable v) x) (wants y))
  unfolding wants_loaded
  fits-plain q f = record { depths = f.depths; variables = λ i l. rw q at (f.variables i l); entries = λ j l. rw q at (f.entries j l) }
