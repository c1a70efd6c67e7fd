use mathlib.Core.Path.{◌≡◌}
use mathlib.Core.Bool.{true}
use Rattle.ground.specs.Bounded.{all_below}
use Rattle.bundle.specs.Program.{program_of}
use Rattle.belongs.specs.Belongs.{object_ok}
use Rattle.belongs.proofs.objects_ok.Given as goal

abbrev pub invariant-loop-o : goal.invariant-loop-o
invariant-loop-o l = all_below l.o (object_ok (program_of l.b) l.classes) ≡ true
