use Rattle.std.proofs.Common.{◌≡◌}
use Rattle.ground.specs.Chain.{scan}
use Rattle.bundle.specs.Program.{program_of}
use Rattle.verdicts.specs.Verdicts.{is_bad, pass}
use Rattle.order.specs.Loops.{ordered_at}
use Rattle.order.proofs.ordered_of.Given as goal

abbrev pub invariant-loop-i : goal.invariant-loop-i
invariant-loop-i l = scan is_bad pass l.i (ordered_at (program_of l.b) l.levels l.m.classes l.c l.m.class l.m.bytes.now) ≡ pass
