-- The two loops over a frame, a turn at a time.
use mathlib.Core.Path.{◌≡◌, refl, ◌∙◌}
use Prim.Native.Nat.{ℕ, zero, suc, ◌+◌, ◌%◌}
use lib.ListN.{set, length-set}
use native.Mathlib.Numerals.{add-one}
use Rattle.memory.specs.declared.Frame.{Frame}
use Rattle.memory.specs.Frames.{Sixteen, with_words, top_place, popped_in, dropped_in, cleared_in}

module _ (p : Frame) where
  pub dropped-zero : dropped_in 0 p ≡ p
  unfolding dropped_in
  dropped-zero = refl

  pub dropped-more : (n : ℕ) → dropped_in (n + 1) p ≡ popped_in (dropped_in n p)
  unfolding dropped_in
  dropped-more n = rw add-one

  pub cleared-zero : cleared_in 0 p ≡ p
  unfolding cleared_in
  cleared-zero = refl

  pub cleared_more : (n : ℕ) → cleared_in (n + 1) p ≡ with_words (cleared_in n p) (set (cleared_in n p).vars (n % 16) 0)
  unfolding cleared_in
  cleared_more n = rw add-one

  pub dropped-sized : (n : ℕ) → Sixteen p → Sixteen (dropped_in n p)
  unfolding dropped_in
  dropped-sized zero z = z
  dropped-sized (suc n) z =
      let h = dropped-sized n z in
      record { vars_16 = h.vars_16; stack_16 = length-set (dropped_in n p).stack (top_place (dropped_in n p)) 0 ∙ h.stack_16 }

  pub cleared-sized : (n : ℕ) → Sixteen p → Sixteen (cleared_in n p)
  unfolding cleared_in
  cleared-sized zero z = z
  cleared-sized (suc n) z =
      let h = cleared-sized n z in
      record { vars_16 = length-set (cleared_in n p).vars (n % 16) 0 ∙ h.vars_16; stack_16 = h.stack_16 }
