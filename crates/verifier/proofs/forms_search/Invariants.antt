use mathlib.Core.Path.{◌≡◌}
use Rattle.ground.specs.Chain.{scan}
use Rattle.verifier.specs.Loops.{form_at}
use Rattle.verdicts.specs.Verdicts.{is_bad, pass}
use Rattle.verifier.proofs.forms_search.Given as goal

abbrev pub invariant-loop-i : goal.invariant-loop-i
invariant-loop-i l = scan is_bad pass l.i (form_at l.m.classes l.c l.m.class l.m.bytes.now) ≡ pass
