use mathlib.Core.Path.{◌≡◌}
use Rattle.ground.specs.Chain.{scan}
use Rattle.structure.specs.Places.{table_places}
use Rattle.structure.specs.Structure.{searched}
use Rattle.verdicts.specs.Verdicts.{is_bad, pass}
use Rattle.structure.proofs.tables.Given as goal

abbrev pub invariant-loop-c : goal.invariant-loop-c
invariant-loop-c l = scan is_bad pass l.c (λ d. searched l.b (table_places l.b d)) ≡ pass
