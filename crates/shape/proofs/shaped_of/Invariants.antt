use Rattle.std.proofs.Common.{◌≡◌}
use Rattle.ground.specs.Chain.{scan}
use Rattle.verdicts.specs.Verdicts.{is_bad, pass}
use Rattle.shape.specs.Loops.{shaped_at}
use Rattle.shape.proofs.shaped_of.Given as goal

abbrev pub invariant-loop-i : goal.invariant-loop-i
invariant-loop-i l = scan is_bad pass l.i (shaped_at l.m.classes l.c l.m.class l.m.bytes.now) ≡ pass
