use mathlib.Core.Path.{◌≡◌}
use mathlib.Core.Bool.{true}
use Rattle.ground.specs.Bounded.{all_below}
use Rattle.state.specs.State.{is_free}
use Rattle.state.proofs.holds_nothing.Given as goal

abbrev pub invariant-loop-o : goal.invariant-loop-o
invariant-loop-o l = all_below l.o (is_free l.counts l.i) ≡ true
