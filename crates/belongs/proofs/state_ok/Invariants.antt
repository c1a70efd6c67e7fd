use mathlib.Core.Path.{◌≡◌}
use mathlib.Core.Bool.{true}
use Rattle.ground.specs.Bounded.{all_below}
use Rattle.bundle.specs.Program.{program_of}
use Rattle.belongs.specs.Belongs.{thread_ok_at, thread_counts_ok_at, word_agrees_at}
use Rattle.belongs.proofs.state_ok.Given as goal

abbrev pub invariant-loop-i : goal.invariant-loop-i
invariant-loop-i l = (all_below l.i (thread_ok_at (program_of l.b) l.s) ≡ true) × (all_below l.i (thread_counts_ok_at l.s) ≡ true) × (all_below l.i (word_agrees_at l.s) ≡ true)
