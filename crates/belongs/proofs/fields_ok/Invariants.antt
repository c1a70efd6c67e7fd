use mathlib.Core.Path.{◌≡◌}
use mathlib.Core.Bool.{true}
use Rattle.ground.specs.Bounded.{all_below}
use Rattle.bundle.specs.Program.{program_of}
use Rattle.belongs.specs.Belongs.{field_refers, fields_refer}
use Rattle.belongs.proofs.fields_ok.Given as goal

abbrev pub invariant-loop-f : goal.invariant-loop-f
invariant-loop-f l = all_below l.f (field_refers l.objects l.fields l.o) ≡ true

abbrev pub invariant-loop-o : goal.invariant-loop-o
invariant-loop-o l = all_below l.o (fields_refer (program_of l.b) l.objects l.classes l.fields) ≡ true
