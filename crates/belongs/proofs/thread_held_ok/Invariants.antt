use Prim.Native.Nat.{◌<◌}
use mathlib.Core.Path.{◌≡◌}
use mathlib.Core.Bool.{true}
use Rattle.ground.specs.Bounded.{all_below}
use Rattle.belongs.specs.Belongs.{count_ok_at}
use Rattle.belongs.proofs.Words.{Made}
use Rattle.belongs.proofs.thread_held_ok.Given as goal

abbrev pub invariant-loop-o : goal.invariant-loop-o
invariant-loop-o l = (all_below l.o (count_ok_at l.counts l.objects l.live l.i) ≡ true) × Made l.counts l.i l.made l.o × (l.made < 4294967296)
