use mathlib.Core.Path.{◌≡◌}
use Rattle.ground.specs.Chain.{scan}
use Rattle.verifier.specs.Places.{form_places}
use Rattle.verifier.specs.Loops.{searched}
use Rattle.verdicts.specs.Verdicts.{is_bad, pass}
use Rattle.verifier.proofs.forms_of_all.Given as goal

abbrev pub invariant-loop-c : goal.invariant-loop-c
invariant-loop-c l = scan is_bad pass l.c (λ d. searched l.b (form_places l.b d)) ≡ pass
