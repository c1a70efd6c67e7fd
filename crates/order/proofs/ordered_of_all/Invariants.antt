use Rattle.std.proofs.Common.{◌≡◌}
use Rattle.ground.specs.Chain.{scan}
use Rattle.verdicts.specs.Verdicts.{is_bad, pass}
use Rattle.order.specs.Loops.{searched, ordered_places}
use Rattle.order.proofs.ordered_of_all.Given as goal

abbrev pub invariant-loop-c : goal.invariant-loop-c
invariant-loop-c l = scan is_bad pass l.c (λ d. searched l.b l.levels (ordered_places l.b d)) ≡ pass
