use mathlib.Core.Path.{◌≡◌}
use Rattle.ground.specs.Chain.{scan}
use Rattle.bundle.specs.Program.{program_of}
use Rattle.verifier.specs.Loops.{rule_verdict}
use Rattle.verdicts.specs.Verdicts.{is_bad, pass}
use Rattle.verifier.proofs.rules_of.Given as goal

abbrev pub invariant-loop-i : goal.invariant-loop-i
invariant-loop-i l = scan is_bad pass l.i (rule_verdict (program_of l.b) l.m.classes l.c l.m.class l.m.bytes.now) ≡ pass
