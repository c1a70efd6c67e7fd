use Prim.Native.Nat.{ℕ}
use Rattle.passes.specs.Passes.{Cleared}
use Rattle.passes.proofs.Clears.{RowThen, Entries}
use Rattle.pairs.proofs.clear_row.Given as goal

abbrev pub invariant-loop-s : goal.invariant-loop-s
invariant-loop-s l = (c : ℕ) → Cleared (RowThen c l.k.class l.l l.initial.b) (Entries c l.l l.s) l.initial.b l.b
