use mathlib.Core.Path.{◌≡◌}
use mathlib.Core.Bool.{true}
use Rattle.ground.specs.Bounded.{all_below}
use Rattle.state.specs.State.{free_of}
use Rattle.state.proofs.others_free.Given as goal

abbrev pub invariant-loop-j : goal.invariant-loop-j
invariant-loop-j l = all_below l.j (free_of l.counts l.i l.o) ≡ true
