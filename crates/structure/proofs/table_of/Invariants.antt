use mathlib.Core.Path.{◌≡◌}
use Rattle.ground.specs.Chain.{scan}
use Rattle.structure.specs.Loops.{table_at}
use Rattle.verdicts.specs.Verdicts.{is_bad, pass}
use Rattle.structure.proofs.table_of.Given as goal

abbrev pub invariant-loop-i : goal.invariant-loop-i
invariant-loop-i l = scan is_bad pass l.i (table_at l.b l.c l.m.class l.m.bytes.now) ≡ pass
