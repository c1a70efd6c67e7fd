use mathlib.Core.Path.{◌≡◌}
use mathlib.Core.Bool.{false}
use Prim.Native.Nat.{ℕ, ◌≤◌, ◌<◌}
use Rattle.passes.specs.Marks.{is_marked}
use Rattle.pairs.proofs.last_marked.Given as goal

abbrev pub invariant-loop-l : goal.invariant-loop-l
invariant-loop-l l = (j : ℕ) → l.l < j → j ≤ l.top → is_marked l.m j ≡ false
