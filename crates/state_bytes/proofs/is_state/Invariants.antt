use mathlib.Core.Path.{◌≡◌}
use mathlib.Core.Bool.{true}
use Rattle.ground.specs.Bounded.{all_below}
use Rattle.state_bytes.specs.Format.{is_thread_at}
use Rattle.state_bytes.proofs.is_state.Given as goal

abbrev pub invariant-loop-i : goal.invariant-loop-i
invariant-loop-i l = all_below l.i (is_thread_at l.g) ≡ true
