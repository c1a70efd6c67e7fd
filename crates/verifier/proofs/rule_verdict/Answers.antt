use Rattle.std.proofs.Common.{arith}
use Rattle.bundle.specs.Container.{instruction_at}
use Rattle.verifier.specs.Loops.{rule_verdict}
use Rattle.verifier.proofs.Rulings.{ruled}
use Rattle.verifier.proofs.rule_verdict.Goals as goal

pub returns : goal.returns
unfolding rule_verdict instruction_at
returns c = rw (← c.code_at.ensures) (ruled _ _ _ _ _ _ (λ u e. grind arith) (λ w e. grind arith) c.rule_of.ensures)
