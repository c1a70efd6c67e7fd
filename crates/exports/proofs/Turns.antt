-- A turn of the loop over steps.
use mathlib.Core.List.{List}
use mathlib.Core.Path.{◌≡◌, refl}
use mathlib.Core.Bool.{Bool}
use Prim.Native.Nat.{ℕ, ◌+◌}
use native.Mathlib.Numerals.{add-one}
use Rattle.machine.specs.Machine.{fresh_of, step_of}
use Rattle.exports.specs.Exports.{begun, advanced, running}

module _ (b : List ℕ) (w : ℕ → ℕ) (f : ℕ → Bool) where
  pub running_none : running b w f 0 ≡ begun (fresh_of b)
  unfolding running
  running_none = refl

  pub running_more : (n : ℕ) → running b w f (n + 1) ≡ advanced (running b w f n).digest (step_of b (running b w f n).state (w n) (f n))
  unfolding running
  running_more n = rw add-one
