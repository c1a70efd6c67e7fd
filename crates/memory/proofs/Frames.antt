-- Each move on a frame is document 01's change of the thread that it is, where the thread has what the move takes.
use mathlib.Core.List.{List, [], ◌∷◌}
use mathlib.Core.Path.{◌≡◌, refl, sym, ap, subst, ◌∙◌}
use mathlib.Core.Bool.{Bool, true, false, cond, not}
use Prim.Native.Nat.{ℕ, zero, suc, ◌+◌, ◌-◌, ◌%◌, ◌<◌, ◌≤◌}
use lib.Dec.{eqb}
use lib.ListN.{get_or, set, replicate, length-set, get_or-replicate}
use native.Mathlib.Nat.{mod-eq_of_lt}
use native.Mathlib.Omega.{arith}
use native.Mathlib.Decide.{dec_lt}
use borrow.Author.Tests.{lt-ltb, le-ltb}
use Rattle.ground.specs.Bounded.{set_below, fill_from}
use Rattle.ground.proofs.Writes.{set-length, set_below_lem, set-above}
use Rattle.instructions.specs.Table.{addr}
use Rattle.values.specs.declared.Slot.{Slot}
use Rattle.values.specs.Values.{zero_slot, is_int, inc_slot, jumps}
use Rattle.threads.specs.declared.Thread.{Thread}
use Rattle.threads.specs.Threads.{from_top, top_of, with_stack, with_vars, with_at, topped, pushed, popped, stored, ended, started}
use Rattle.memory.specs.Tab.{tab}
use Rattle.memory.specs.Words.{slot_of, inc_word}
use Rattle.memory.specs.declared.Frame.{Frame}
use Rattle.memory.specs.Frames.{Sixteen, slot_in, depth_in, thread_in, top_place, top_in, went_in, topped_in, pushed_in, popped_in, dropped_in, stored_in, branched_in, cleared_in, emptied_in, ended_in, caught_in, argument_in, begun_in}
use Rattle.memory.proofs.Tab.{tab-length, tab-at, is-tab}
use Rattle.memory.proofs.Meaning.{word-zero, int-low, inc-word, jumps-word}
use Rattle.memory.proofs.Writes.{slots-set, entry_read, top_read}

-- ---- one thread's changes, by their places
topped-at : (t : Thread) (q : ℕ) (x : Slot) → q + 1 ≡ t.depth → with_stack t (set t.stack q x) t.depth ≡ topped t x
unfolding topped
topped-at t q x e = let f : t.depth - 1 ≡ q = omega arith in rw f

pushed_at : (t : Thread) (q : ℕ) (x : Slot) → q ≡ t.depth → q < 16 → with_stack t (set t.stack q x) (q + 1) ≡ pushed t x
unfolding pushed
pushed_at t q x e l = rw (← e, lt-ltb q 16 l)

popped-one : (t : Thread) (q : ℕ) → q + 1 ≡ t.depth → with_stack t (set t.stack q zero_slot) q ≡ popped 1 t
unfolding popped fill_from
popped-one t q e = let f : t.depth - 1 ≡ q = omega arith in let g : q + 0 ≡ q = omega arith in rw (f, g)

popped-none : (t : Thread) → t ≡ popped 0 t
unfolding popped fill_from
popped-none t = let f : t.depth - 0 ≡ t.depth = omega arith in rw f

-- two writes of the same value
set_twice : {A : Type 0} (l : List A) (i j : ℕ) (x : A) → set (set l i x) j x ≡ set (set l j x) i x
set_twice [] i j x = refl
set_twice (y ∷ l) zero zero x = refl
set_twice (y ∷ l) zero (suc j) x = refl
set_twice (y ∷ l) (suc i) zero x = refl
set_twice (y ∷ l) (suc i) (suc j) x = ap (λ (m : List _). y ∷ m) (set_twice l i j x)

-- n places from q on, and the one before them
fill-front : {A : Type 0} (q n : ℕ) (x : A) (l : List A) → set (fill_from (suc q) n x l) q x ≡ fill_from q (suc n) x l
unfolding fill_from
fill-front q zero x l = let e : q + 0 ≡ q = omega arith in rw e
fill-front q (suc n) x l =
    let e : suc q + n ≡ q + suc n = omega arith in
    set_twice (fill_from (suc q) n x l) (suc q + n) q x ∙ ap (λ (m : List _). set m (suc q + n) x) (fill-front q n x l) ∙ (rw e)

fill_one : (q : ℕ) (x : Slot) (l : List Slot) → fill_from q 1 x l ≡ set l q x
unfolding fill_from
fill_one q x l = let e : q + 0 ≡ q = omega arith in rw e

popped-more : (t : Thread) (n : ℕ) → n + 1 ≤ t.depth → popped 1 (popped n t) ≡ popped (suc n) t
unfolding popped
popped-more t n l =
    let e : t.depth - n ≡ suc (t.depth - suc n) = omega arith in
    let f : t.depth - n - 1 ≡ t.depth - suc n = omega arith in
    rw f
    (ap (λ (m : List Slot). with_stack t m (t.depth - suc n))
    (fill_one (t.depth - suc n) zero_slot (fill_from (t.depth - n) n zero_slot t.stack)
    ∙ (rw e)
    ∙ fill-front (t.depth - suc n) n zero_slot t.stack))

popped-depth : (t : Thread) (n : ℕ) → (popped n t).depth ≡ t.depth - n
unfolding popped
popped-depth t n = refl

-- ---- the moves
-- the frame p is the thread u
pub record Is (p : Frame) (u : Thread) : Type 0 where
  pub sized : Sixteen p
  pub thread : thread_in p ≡ u

pub went-is : (p : Frame) (u : Thread) (to : ℕ) → Is p u → to < 65536 → Is (went_in p to) (with_at u to)
went-is p u to h l =
    record {
      sized = record { vars_16 = h.sized.vars_16; stack_16 = h.sized.stack_16 };
      thread = rw (mod-eq_of_lt l) (ap (λ (t : Thread). with_at t to) h.thread);
    }

module _ (p : Frame) (z : Sixteen p) where
  abbrev T : Thread
  T = thread_in p

  -- w in the stack place q
  placed : (q w : ℕ) → q < 16 → tab 16 (slot_in (set p.stack q w)) ≡ set (thread_in p).stack q (slot_of w)
  placed q w l = slots-set 16 p.stack q w z.stack_16 l

  pub stored_is : (v w : ℕ) → v < 16 → Is (stored_in p v w) (stored (thread_in p) v (slot_of w))
  unfolding stored
  stored_is v w l =
      record {
        sized = record { vars_16 = length-set p.vars (v % 16) w ∙ z.vars_16; stack_16 = z.stack_16 };
        thread = rw (mod-eq_of_lt l) (ap (with_vars T) (slots-set 16 p.vars v w z.vars_16 l));
      }

  pub pushed-is : (w : ℕ) → depth_in p < 16 → Is (pushed_in p w) (pushed (thread_in p) (slot_of w))
  pushed-is w l =
      let e : (p.depth % 16 + 1) % 256 ≡ p.depth % 16 + 1 = omega arith in
      record {
        sized = record { vars_16 = z.vars_16; stack_16 = length-set p.stack (p.depth % 16) w ∙ z.stack_16 };
        thread = (rw e)
            ∙ ap (λ (s : List Slot). with_stack T s (p.depth % 16 + 1)) (placed (p.depth % 16) w (omega arith))
            ∙ pushed_at T (p.depth % 16) (slot_of w) (omega arith) (omega arith);
      }

  -- .. where its depth is at most sixteen places
  module _ (m : depth_in p ≤ 16) where
    pub topped-is : (w : ℕ) → 1 ≤ depth_in p → Is (topped_in p w) (topped (thread_in p) (slot_of w))
    topped-is w l =
        record {
          sized = record { vars_16 = z.vars_16; stack_16 = length-set p.stack (top_place p) w ∙ z.stack_16 };
          thread = ap (λ (s : List Slot). with_stack T s T.depth) (placed (top_place p) w (omega arith)) ∙ topped-at T (top_place p) (slot_of w) (omega arith);
        }

    pub popped-is : 1 ≤ depth_in p → Is (popped_in p) (popped 1 (thread_in p))
    popped-is l =
        let e : top_place p % 256 ≡ top_place p = omega arith in
        record {
          sized = record { vars_16 = z.vars_16; stack_16 = length-set p.stack (top_place p) 0 ∙ z.stack_16 };
          thread = (rw e)
              ∙ ap (λ (s : List Slot). with_stack T s (top_place p)) (placed (top_place p) 0 (omega arith) ∙ ap (set T.stack (top_place p)) word-zero)
              ∙ popped-one T (top_place p) (omega arith);
        }

-- n entries gone
pub dropped-is : (p : Frame) → Sixteen p → depth_in p ≤ 16 → (n : ℕ) → n ≤ depth_in p → Is (dropped_in n p) (popped n (thread_in p))
unfolding dropped_in
dropped-is p z m zero l = record { sized = z; thread = popped-none (thread_in p) }
dropped-is p z m (suc n) l =
    let h = dropped-is p z m n (omega arith) in
    let d : depth_in (dropped_in n p) ≡ depth_in p - n = ap (λ (t : Thread). t.depth) h.thread ∙ popped-depth (thread_in p) n in
    let k = popped-is (dropped_in n p) h.sized (omega arith) (omega arith) in
    record {
      sized = k.sized;
      thread = k.thread ∙ ap (popped 1) h.thread ∙ popped-more (thread_in p) n (omega arith);
    }

-- n variables become 0
cleared-is : (p : Frame) → Sixteen p → (n : ℕ) → n ≤ 16 → Is (cleared_in n p) (with_vars (thread_in p) (fill_from 0 n zero_slot (thread_in p).vars))
unfolding cleared_in fill_from stored
cleared-is p z zero l = record { sized = z; thread = refl }
cleared-is p z (suc n) l =
    let h = cleared-is p z n (omega arith) in
    let k = stored_is (cleared_in n p) h.sized n 0 (omega arith) in
    let e : 0 + n ≡ n = omega arith in
    record {
      sized = k.sized;
      thread = k.thread ∙ rw (e, word-zero) (ap (λ (t : Thread). with_vars t (set t.vars n zero_slot)) h.thread);
    }

-- the stack emptied
emptied-is : (p : Frame) → Sixteen p → depth_in p ≤ 16 → Is (emptied_in p) (popped (depth_in p) (thread_in p))
emptied-is p z m =
    let e : p.depth % 32 ≡ depth_in p = omega arith in
    rw e (dropped-is p z m (depth_in p) (omega arith))

-- a thread at rest, with the values it has
abbrev rested : Thread → Thread
rested t = record { live = false; class = 0; at = addr 0; depth = 0; vars = t.vars; stack = t.stack }

module _ (p : Frame) (z : Sixteen p) (m : depth_in p ≤ 16) where
  pub caught-is : (w : ℕ) → Is (caught_in p w) (pushed (popped (depth_in p) (thread_in p)) (slot_of w))
  caught-is w =
      let h = emptied-is p z m in
      let d : depth_in (emptied_in p) ≡ depth_in p - depth_in p = ap (λ (t : Thread). t.depth) h.thread ∙ popped-depth (thread_in p) (depth_in p) in
      let k = pushed-is (emptied_in p) h.sized w (omega arith) in
      record { sized = k.sized; thread = k.thread ∙ ap (λ (t : Thread). pushed t (slot_of w)) h.thread }

  -- a thread that ends is emptied, and its head becomes 0
  ended-parts : (vars : ℕ) → rested (popped (depth_in p) (with_vars (thread_in p) (fill_from 0 vars zero_slot (thread_in p).vars))) ≡ ended vars (thread_in p)
  unfolding ended popped
  ended-parts vars = let e : depth_in p - depth_in p ≡ 0 = omega arith in rw e

  pub ended_is : (vars : ℕ) → vars ≤ 16 → Is (ended_in p vars) (ended vars (thread_in p))
  ended_is vars l =
      let c = cleared-is p z vars l in
      let d : depth_in (cleared_in vars p) ≡ depth_in p = ap (λ (t : Thread). t.depth) c.thread in
      let h = emptied-is (cleared_in vars p) c.sized (omega arith) in
      record {
        sized = record { vars_16 = h.sized.vars_16; stack_16 = h.sized.stack_16 };
        thread = ap rested (h.thread ∙ (rw d) ∙ ap (popped (depth_in p)) c.thread) ∙ ended-parts vars;
      }

  -- ---- by kind
  pub inc_is : is_int (top_of (thread_in p)) ≡ true → 1 ≤ depth_in p → Is (topped_in p (inc_word (top_in p))) (topped (thread_in p) (inc_slot (top_of (thread_in p))))
  inc_is e l =
      let k = topped-is p z m (inc_word (top_in p)) l in
      let r = top_read p l m in
      record {
        sized = k.sized;
        thread = k.thread
            ∙ ap (topped (thread_in p)) (inc-word (top_in p) (int-low (top_in p) (subst (λ (x : Slot). is_int x ≡ true) r e)) ∙ ap inc_slot (sym r));
      }

  pub branched-is : is_int (top_of (thread_in p)) ≡ true → 1 ≤ depth_in p → (a to : ℕ) → a < 65536 → to < 65536
      → Is (branched_in p a to) (with_at (popped 1 (thread_in p)) (cond (jumps (top_of (thread_in p))) a to))
  branched-is e l a to la lt =
      let r = top_read p l m in
      let j : jumps (top_of (thread_in p)) ≡ not (eqb (top_in p) 0) = ap jumps r ∙ jumps-word (top_in p) (int-low (top_in p) (subst (λ (x : Slot). is_int x ≡ true) r e)) in
      rw j (go (eqb (top_in p) 0))
    where
      go : (b : Bool) → Is (went_in (popped_in p) (cond b to a)) (with_at (popped 1 (thread_in p)) (cond (not b) a to))
      go true = went-is (popped_in p) (popped 1 (thread_in p)) to (popped-is p z m l) lt
      go false = went-is (popped_in p) (popped 1 (thread_in p)) a (popped-is p z m l) la

-- ---- a thread that begins: q is its starter's frame
module _ (p q : Frame) (z : Sixteen p) (m : depth_in q ≤ 16) (n c : ℕ) (l : n ≤ depth_in q) (lc : c < 256) where
  argument_is : (v : ℕ) → v < 16 → slot_of (argument_in q n v) ≡ get_or (set_below n (from_top (thread_in q)) (replicate 16 zero_slot)) v zero_slot
  argument_is v k = go (dec_lt v n)
    where
      go : Dec (v < n) → slot_of (argument_in q n v) ≡ get_or (set_below n (from_top (thread_in q)) (replicate 16 zero_slot)) v zero_slot
      go (yes a) =
          rw (lt-ltb v n a)
          (sym (set_below_lem (from_top (thread_in q)) (replicate 16 zero_slot) n v zero_slot a (omega arith)
          ∙ entry_read q v ((q.depth % 16 + 31 - v) % 16) (omega arith) m (omega arith)))
      go (no a) =
          rw (le-ltb v n (omega arith))
          (word-zero ∙ sym (set-above (from_top (thread_in q)) (replicate 16 zero_slot) n v zero_slot (omega arith) ∙ get_or-replicate 16 v zero_slot zero_slot k))

  vars-is : tab 16 (slot_in (tab 16 (argument_in q n))) ≡ set_below n (from_top (thread_in q)) (replicate 16 zero_slot)
  vars-is =
      sym (is-tab 16 _ zero_slot (set_below n (from_top (thread_in q)) (replicate 16 zero_slot)) (set-length (from_top (thread_in q)) (replicate 16 zero_slot) n)
      (λ v k. sym (ap slot_of (tab-at 16 (argument_in q n) v 0 k) ∙ argument_is v k)))

  pub begun-is : Is (begun_in p (tab 16 (argument_in q n)) c) (started (thread_in p) (thread_in q) c n)
  unfolding started
  begun-is = record { sized = record { vars_16 = tab-length 16 (argument_in q n); stack_16 = z.stack_16 }; thread = rw (vars-is, mod-eq_of_lt lc) }
