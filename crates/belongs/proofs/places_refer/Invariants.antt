use mathlib.Core.Path.{◌≡◌}
use mathlib.Core.Bool.{true}
use Rattle.ground.specs.Bounded.{all_below}
use Rattle.belongs.specs.Belongs.{place_refers}
use Rattle.belongs.proofs.places_refer.Given as goal

abbrev pub invariant-loop-i : goal.invariant-loop-i
invariant-loop-i l = all_below l.i (place_refers l.objects l.l) ≡ true
