-- A thread's values by slot: slot i below 16 is variable i, slot 16 + p the stack's place p from the bottom. One law a write.
use Prim.Native.Nat.{ℕ, ◌+◌, ◌-◌, ◌≤◌, ◌<◌}
use mathlib.Core.Path.{◌≡◌}
use mathlib.Core.Logic.{◌≢◌}
use mathlib.Core.List.{List}
use native.Mathlib.Omega.{arith}
use native.Mathlib.Decide.{dec_lt}
use lib.IntN.{pos}
use lib.ListN.{length, get_or, set, replicate, length-replicate, get_or-replicate}
use lib.Seq.{get_or-set_same, get_or-set_other}
use borrow.Author.Tests.{lt-ltb, le-ltb}
use Rattle.ground.specs.Bounded.{set_below, fill_from}
use Rattle.ground.proofs.Writes.{set_below_lem, set-above, fill-out}
use Rattle.values.specs.declared.Value.TheVariants.{Int}
use Rattle.values.specs.declared.Slot.{Slot}
use Rattle.values.specs.Values.{zero_slot}
use Rattle.threads.specs.declared.Thread.{Thread}
use Rattle.threads.specs.Threads.{from_top, var_of, with_stack, pushed}
use Rattle.soundness.specs.Balance.{value_in, value_of}

-- ---- reads
pub value-var : (t : Thread) (v : ℕ) → v < 16 → value_of t v ≡ (var_of t v).value
unfolding value_in
value-var t v h = rw (lt-ltb v 16 h)

pub value-place : (t : Thread) (s p : ℕ) → s ≡ 16 + p → value_of t s ≡ (get_or t.stack p zero_slot).value
unfolding value_in
value-place t s p q = let e : s - 16 ≡ p = omega arith in rw (le-ltb s 16 (omega arith), e)

-- the stack entry j, from the top
pub value-entry : (t : Thread) (s j : ℕ) → 16 ≤ s → s + j + 1 ≡ 16 + t.depth → value_of t s ≡ (from_top t j).value
value-entry t s j h q = value-place t s (t.depth - 1 - j) (omega arith)

-- ---- writes
module _ (vars stack : List Slot) where
  pub value_set : (p s : ℕ) (x : Slot) → p < length stack → s ≡ 16 + p → value_in vars (set stack p x) s ≡ x.value
  unfolding value_in
  value_set p s x h q =
      let e : s - 16 ≡ p = omega arith in
      rw (le-ltb s 16 (omega arith), e, get_or-set_same stack p x zero_slot h)

  pub value-set-other : (p s : ℕ) (x : Slot) → s ≢ 16 + p → value_in vars (set stack p x) s ≡ value_in vars stack s
  unfolding value_in
  value-set-other p s x n = go (dec_lt s 16)
    where
      go : Dec (s < 16) → value_in vars (set stack p x) s ≡ value_in vars stack s
      go (yes k) = rw (lt-ltb s 16 k)
      go (no k) = rw (le-ltb s 16 (omega arith), get_or-set_other stack p (s - 16) x zero_slot (λ q. n (omega arith)))

  pub value-store : (v : ℕ) (x : Slot) → v < 16 → v < length vars → value_in (set vars v x) stack v ≡ x.value
  unfolding value_in
  value-store v x k h = rw (lt-ltb v 16 k, get_or-set_same vars v x zero_slot h)

  pub value-store-other : (v s : ℕ) (x : Slot) → s ≢ v → value_in (set vars v x) stack s ≡ value_in vars stack s
  unfolding value_in
  value-store-other v s x n = rw (get_or-set_other vars v s x zero_slot n)

  -- places from a on fall out of use
  pub value-fill : (a n s : ℕ) → s < 16 + a → value_in vars (fill_from a n zero_slot stack) s ≡ value_in vars stack s
  unfolding value_in
  value-fill a n s h = go (dec_lt s 16)
    where
      go : Dec (s < 16) → value_in vars (fill_from a n zero_slot stack) s ≡ value_in vars stack s
      go (yes k) = rw (lt-ltb s 16 k)
      go (no k) = rw (le-ltb s 16 (omega arith), fill-out a zero_slot stack n (s - 16) zero_slot (λ l. omega arith))

-- a new thread's variables: n arguments, and 0
pub value-argument : (n s : ℕ) (f : ℕ → Slot) (stack : List Slot) → s < n → n ≤ 16
    → value_in (set_below n f (replicate 16 zero_slot)) stack s ≡ (f s).value
unfolding value_in
value-argument n s f stack h k =
    rw (lt-ltb s 16 (omega arith), set_below_lem f (replicate 16 zero_slot) n s zero_slot h (rw (length-replicate 16 zero_slot) k))

pub value-zero : (n s : ℕ) (f : ℕ → Slot) (stack : List Slot) → n ≤ s → s < 16
    → value_in (set_below n f (replicate 16 zero_slot)) stack s ≡ Int (pos 0)
unfolding value_in
value-zero n s f stack h k =
    rw (lt-ltb s 16 k, set-above f (replicate 16 zero_slot) n s zero_slot h, get_or-replicate 16 s zero_slot zero_slot k)

-- with room, a push writes
pub pushed-is : (t : Thread) (x : Slot) → t.depth < 16 → pushed t x ≡ with_stack t (set t.stack t.depth x) (t.depth + 1)
unfolding pushed
pushed-is t x h = rw (lt-ltb t.depth 16 h)
