-- The lowest thread number that is free, as it is found.
use mathlib.Core.List.{List, [], ◌∷◌}
use mathlib.Core.Path.{◌≡◌, refl}
use mathlib.Core.Bool.{Bool, true, false, cond, not}
use Prim.Native.Nat.{ℕ, zero, suc, ◌+◌, ◌<◌, ◌≤◌}
use lib.Dec.{ltb}
use lib.ListN.{length}
use native.Mathlib.Omega.{arith}
use native.Mathlib.Decide.{dec_lt}
use borrow.Author.Tests.{lt-ltb}
use Rattle.std.specs.List.{position_or_len}
use Rattle.std.proofs.Common.{Some, None}
use Rattle.ground.specs.Bounded.{first_below}
use Rattle.memory.specs.declared.Frame.{Frame}
use Rattle.memory.specs.Frames.{live_in}
use Rattle.runner.specs.Starts.{place_in, idle_in, lowest_in}

first-within : (n : ℕ) (p : ℕ → Bool) → first_below n p ≤ n
unfolding first_below
first-within zero p = omega arith
first-within (suc n) p = go (p 0) (first-within n (λ i. p (suc i)))
  where
    go : (t : Bool) → first_below n (λ i. p (suc i)) ≤ n → cond t 0 (suc (first_below n (λ i. p (suc i)))) ≤ suc n
    go true l = omega arith
    go false l = omega arith

found-first : (frames : List Frame) → position_or_len (λ (p : Frame). not (live_in p)) frames ≡ first_below (length frames) (idle_in frames)
unfolding first_below
found-first [] = refl
found-first (p ∷ frames) = rw (found-first frames) (step (live_in p) (first_below (length frames) (idle_in frames)))
  where
    step : (t : Bool) (n : ℕ) → cond (not (not t)) (1 + n) 0 ≡ cond (not t) 0 (suc n)
    step true n = omega arith
    step false n = refl

pub lowest-found : (frames : List Frame) → length frames ≡ 8
    → place_in
    (cond (ltb (position_or_len (λ (p : Frame). not (live_in p)) frames) (length frames)) (Some (position_or_len (λ (p : Frame). not (live_in p)) frames)) None)
    ≡ lowest_in frames
unfolding lowest_in
lowest-found frames e = rw (found-first frames, e) (go (first_below 8 (idle_in frames)) (dec_lt (first_below 8 (idle_in frames)) 8) (first-within 8 (idle_in frames)))
  where
    go : (k : ℕ) → Dec (k < 8) → k ≤ 8 → place_in (cond (ltb k 8) (Some k) None) ≡ k
    go k (yes q) l = rw (lt-ltb k 8 q)
    go k (no q) l = let f : k ≡ 8 = omega arith in rw f
