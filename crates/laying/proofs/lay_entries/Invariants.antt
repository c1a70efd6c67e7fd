use Prim.Native.Nat.{◌+◌}
use Rattle.ground.specs.Lists.{each}
use Rattle.laying.specs.Laid.{entry_laid}
use Rattle.laying.specs.Loops.{Lays}
use Rattle.laying.proofs.lay_entries.Given as goal

abbrev pub invariant-loop-j : goal.invariant-loop-j
invariant-loop-j l = Lays l.initial.out l.p (each l.j (λ i. entry_laid l.kinds (l.s + i))) l.q l.out
