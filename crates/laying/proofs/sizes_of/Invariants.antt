use mathlib.Core.Path.{◌≡◌}
use Prim.Native.Nat.{◌*◌}
use Rattle.laying.specs.Loops.{sizes_of, Under}
use Rattle.laying.proofs.sizes_of.Given as goal

abbrev pub invariant-loop-c : goal.invariant-loop-c
invariant-loop-c l = record { sizes : l.s ≡ sizes_of l.directory l.c; under : Under (l.c * 268435456) l.s }
