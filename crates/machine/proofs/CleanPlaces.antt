-- What an instruction makes of a thread whose places out of use are integer 0: they are integer 0 again, and so is what fell out of use.
use mathlib.Core.Path.{◌≡◌, refl}
use mathlib.Core.Bool.{Bool, true, false, cond}
use mathlib.Core.List.{List}
use Prim.Native.Nat.{ℕ, zero, suc, ◌+◌, ◌-◌, ◌≤◌, ◌<◌}
use native.Mathlib.Omega.{arith}
use native.Mathlib.Decide.{dec_lt}
use lib.ListN.{get_or, set, replicate, length-replicate, get_or-replicate, get_or-eq_default}
use lib.Dec.{ltb}
use Rattle.ground.specs.Bounded.{set_below, fill_from}
use Rattle.ground.proofs.Writes.{set-above}
use Rattle.bundle.specs.Program.{Program}
use Rattle.values.specs.declared.Slot.{Slot}
use Rattle.values.specs.Values.{zero_slot}
use Rattle.threads.specs.declared.Thread.{Thread}
use Rattle.threads.specs.Threads.{from_top, with_stack, with_at, topped, pushed, popped, stored, ended, started}
use Rattle.machine.proofs.Writes.{write-in}

-- ---- variables or stack places
-- each place from n on is integer 0 (past the end nothing stands, and zero_slot is read)
pub record ZeroFrom (n : ℕ) (l : List Slot) : Type 0 where
  pub zero_at : (i : ℕ) → n ≤ i → get_or l i zero_slot ≡ zero_slot

pub zero-new : (n m : ℕ) → ZeroFrom n (replicate m zero_slot)
zero-new n m = record { zero_at = λ i h. go i (dec_lt i m) }
  where
    go : (i : ℕ) → Dec (i < m) → get_or (replicate m zero_slot) i zero_slot ≡ zero_slot
    go i (yes k) = get_or-replicate m i zero_slot zero_slot k
    go i (no k) = get_or-eq_default (replicate m zero_slot) zero_slot (omega (arith, length-replicate m zero_slot))

-- a write at a place that is in use then
zero-set : (n m i : ℕ) (x : Slot) (l : List Slot) → n ≤ m → i < m → ZeroFrom n l → ZeroFrom m (set l i x)
zero-set n m i x l k b z =
    record { zero_at = λ j h. write-in (λ (y : Slot). y ≡ zero_slot) l i j x zero_slot refl (λ q. absurd (omega arith)) (λ q. z.zero_at j (omega arith)) }

filled_at : (n m i : ℕ) (l : List Slot) → n ≤ i → (n + m ≤ i → get_or l i zero_slot ≡ zero_slot) → get_or (fill_from n m zero_slot l) i zero_slot ≡ zero_slot
unfolding fill_from
filled_at n zero i l k old = old (omega arith)
filled_at n (suc m) i l k old =
    write-in (λ (y : Slot). y ≡ zero_slot) (fill_from n m zero_slot l) (n + m) i zero_slot zero_slot refl (λ q. refl) (λ q. filled_at n m i l k (λ h. old (omega arith)))

-- k places from m on, with all below n, become integer 0
zero-fill : (n m k : ℕ) (l : List Slot) → n ≤ m + k → ZeroFrom n l → ZeroFrom m (fill_from m k zero_slot l)
zero-fill n m k l b z = record { zero_at = λ i h. filled_at m k i l h (λ e. z.zero_at i (omega arith)) }

-- ---- a thread
-- In use are a live thread's variables below V and its stack places within its depth.
abbrev pub vars_in_use : Program → Thread → ℕ
vars_in_use P t = cond t.live (P.method t.class).vars 0

abbrev pub depth_in_use : Thread → ℕ
depth_in_use t = cond t.live t.depth 0

-- every place out of use is integer 0
pub record CleanThread (P : Program) (t : Thread) : Type 0 where
  pub variables : ZeroFrom (vars_in_use P t) t.vars
  pub places : ZeroFrom (depth_in_use t) t.stack

-- the same of a live thread of class c, while an instruction changes it
pub record CleanLive (P : Program) (c : ℕ) (t : Thread) : Type 0 where
  pub is_live : t.live ≡ true
  pub of_class : t.class ≡ c
  pub variables : ZeroFrom (P.method c).vars t.vars
  pub places : ZeroFrom t.depth t.stack

module _ (P : Program) where
  pub clean-live : (t : Thread) → t.live ≡ true → CleanThread P t → CleanLive P t.class t
  clean-live t a h = record { is_live = a; of_class = refl; variables = rw a at h.variables; places = rw a at h.places }

  -- wherever the thread goes
  pub live_clean : (c : ℕ) (t : Thread) (a : ℕ) → CleanLive P c t → CleanThread P (with_at t a)
  live_clean c t a h = record { variables = rw (h.is_live, h.of_class) h.variables; places = rw h.is_live h.places }

  -- an ended thread has no place in use
  pub ended-clean : (c : ℕ) (t : Thread) → CleanLive P c t → CleanThread P (ended (P.method c).vars t)
  unfolding ended
  ended-clean c t h =
      record { variables = zero-fill (P.method c).vars 0 (P.method c).vars t.vars (omega arith) h.variables; places = zero-fill t.depth 0 t.depth t.stack (omega arith) h.places }

  -- each of the variables that is no argument holds 0, and a thread that wasn't live had no place in use
  pub started-clean : (old t : Thread) (c args : ℕ) → args ≤ (P.method c).vars → old.live ≡ false → CleanThread P old
      → CleanThread P (started old t c args)
  unfolding started
  started-clean old t c args k a h = record { variables = record { zero_at = others }; places = rw a at h.places }
    where
      others : (v : ℕ) → (P.method c).vars ≤ v → get_or (set_below args (from_top t) (replicate 16 zero_slot)) v zero_slot ≡ zero_slot
      others v l = rw (set-above (from_top t) (replicate 16 zero_slot) args v zero_slot (omega arith)) ((zero-new 0 16).zero_at v (omega arith))

  module _ (c : ℕ) (t : Thread) (h : CleanLive P c t) where
    pub topped-clean : (x : Slot) → 1 ≤ t.depth → CleanLive P c (topped t x)
    unfolding topped
    topped-clean x k =
        record {
          is_live = h.is_live;
          of_class = h.of_class;
          variables = h.variables;
          places = zero-set t.depth t.depth (t.depth - 1) x t.stack (omega arith) (omega arith) h.places;
        }

    pub pushed-clean : (x : Slot) → CleanLive P c (pushed t x)
    unfolding pushed
    pushed-clean x = go (ltb t.depth 16)
      where
        go : (b : Bool) → CleanLive P c (cond b (with_stack t (set t.stack t.depth x) (t.depth + 1)) t)
        go true =
            record {
              is_live = h.is_live;
              of_class = h.of_class;
              variables = h.variables;
              places = zero-set t.depth (t.depth + 1) t.depth x t.stack (omega arith) (omega arith) h.places;
            }
        go false = h

    pub popped-clean : (n : ℕ) → CleanLive P c (popped n t)
    unfolding popped
    popped-clean n =
        record {
          is_live = h.is_live;
          of_class = h.of_class;
          variables = h.variables;
          places = zero-fill t.depth (t.depth - n) n t.stack (omega arith) h.places;
        }

    pub stored-clean : (v : ℕ) (x : Slot) → v < (P.method c).vars → CleanLive P c (stored t v x)
    unfolding stored
    stored-clean v x k =
        record {
          is_live = h.is_live;
          of_class = h.of_class;
          variables = zero-set (P.method c).vars (P.method c).vars v x t.vars (omega arith) k h.variables;
          places = h.places;
        }
