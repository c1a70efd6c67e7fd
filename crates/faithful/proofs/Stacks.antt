-- A stack as the list of its entries, the top first.
use mathlib.Core.Path.{◌≡◌, refl, ◌∙◌, subst}
use mathlib.Core.List.{List, [], ◌∷◌}
use Prim.Native.Nat.{ℕ, zero, suc, ◌+◌, ◌-◌, ◌≤◌, ◌<◌}
use native.Mathlib.Omega.{arith}
use lib.ListN.{length, get_or, set}
use lib.Seq.{get_or-set_same, get_or-set_other}
use borrow.Author.Tests.{lt-ltb}
use Rattle.ground.specs.Bounded.{fill_from}
use Rattle.ground.proofs.Writes.{fill-length}
use Rattle.values.specs.declared.Slot.{Slot}
use Rattle.values.specs.Values.{zero_slot}
use Rattle.threads.specs.declared.Thread.{Thread}
use Rattle.threads.specs.Threads.{with_stack, pushed, popped}
use Rattle.turns.specs.Moves.{caught}
use Rattle.faithful.specs.Frames.{top_of, rest_of}
use Rattle.faithful.specs.Faithful.{top_first}

-- entries at or above n do not matter
same : (n : ℕ) (l m : List Slot) → ((j : ℕ) → j < n → get_or l j zero_slot ≡ get_or m j zero_slot) → top_first n l ≡ top_first n m
unfolding top_first
same zero l m h = refl
same (suc n) l m h = rw (h n (omega arith), same n l m (λ j k. h j (omega arith)))

pub above : (n i : ℕ) (l : List Slot) (x : Slot) → n ≤ i → top_first n (set l i x) ≡ top_first n l
above n i l x h = same n (set l i x) l (λ j k. get_or-set_other l i j x zero_slot (omega arith))

-- the top, of n + 1 entries
top-suc : (n : ℕ) (l : List Slot) → top_first (n + 1) l ≡ get_or l n zero_slot ∷ top_first n l
unfolding top_first
top-suc n l = let e : n + 1 ≡ suc n = omega arith in rw e

pub push-top : (n : ℕ) (l : List Slot) (x : Slot) → n < length l → top_first (n + 1) (set l n x) ≡ x ∷ top_first n l
push-top n l x h = top-suc n (set l n x) ∙ rw (get_or-set_same l n x zero_slot h, above n n l x (omega arith))

-- a stack with at least one entry
split : (d : ℕ) (l : List Slot) → 1 ≤ d → top_first d l ≡ get_or l (d - 1 - 0) zero_slot ∷ top_first (d - 1) l
split d l h =
    let e : d - 1 + 1 ≡ d = omega arith in
    let f : d - 1 - 0 ≡ d - 1 = omega arith in
    rw f (subst (λ (n : ℕ). top_first n l ≡ get_or l (d - 1) zero_slot ∷ top_first (d - 1) l) e (top-suc (d - 1) l))

pub top-of : (d : ℕ) (l : List Slot) → 1 ≤ d → get_or l (d - 1 - 0) zero_slot ≡ top_of (top_first d l)
top-of d l h = rw (split d l h)

pub rest-of : (d : ℕ) (l : List Slot) → 1 ≤ d → top_first (d - 1) (fill_from (d - 1) 1 zero_slot l) ≡ rest_of (top_first d l)
unfolding fill_from
rest-of d l h = rw (split d l h) (above (d - 1) (d - 1 + 0) l zero_slot (omega arith))

pub pushed-is : (t : Thread) (x : Slot) → t.depth < 16 → pushed t x ≡ with_stack t (set t.stack t.depth x) (t.depth + 1)
unfolding pushed
pushed-is t x h = rw (lt-ltb t.depth 16 h)

-- ---- what is thrown, alone on the stack
emptied : (t : Thread) → popped t.depth t ≡ with_stack t (fill_from 0 t.depth zero_slot t.stack) 0
unfolding popped
emptied t = let e : t.depth - t.depth ≡ 0 = omega arith in rw e

pub caught-is : (t : Thread) (x : Slot) → caught t x ≡ with_stack t (set (fill_from 0 t.depth zero_slot t.stack) 0 x) 1
unfolding pushed
caught-is t x = rw (emptied t)

pub caught-alone : (d : ℕ) (l : List Slot) (x : Slot) → length l ≡ 16 → top_first 1 (set (fill_from 0 d zero_slot l) 0 x) ≡ x ∷ []
unfolding top_first
caught-alone d l x e = rw (get_or-set_same (fill_from 0 d zero_slot l) 0 x zero_slot (rw (fill-length 0 zero_slot l d, e) (omega arith)))
