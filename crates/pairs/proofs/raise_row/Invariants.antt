use Prim.Native.Nat.{ℕ}
use Rattle.std.specs.Prelude.{Ok}
use Rattle.pairs.specs.Rises.{rise_in}
use Rattle.passes.specs.Passes.{Raised}
use Rattle.passes.proofs.Raises.{GivenThen, SlotsBelow}
use Rattle.pairs.proofs.raise_row.Given as goal

abbrev pub invariant-loop-s : goal.invariant-loop-s
invariant-loop-s l = (c : ℕ) → Raised (GivenThen l.k.classes c l.k.class l.l l.initial.b) c l.l (SlotsBelow l.s) l.initial.b (rise_in (Ok l.rose)) l.b
