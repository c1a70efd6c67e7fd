use Rattle.runner.specs.Table.{row_of}
use Rattle.ground.specs.Bounded.{set_below}
use lib.ListN.{replicate}
use mathlib.Core.Path.{◌≡◌}
use Rattle.runner.proofs.table.table_of.Given as goal

abbrev pub invariant-loop-c : goal.invariant-loop-c
invariant-loop-c l = l.next ≡ set_below l.c (row_of l.b) (replicate 8 (row_of l.b 0))
