use Rattle.std.proofs.Common.{arith, rules}
use Rattle.java.proofs.Sizes.{size-within}
use Rattle.java.proofs.steps.StepsIterator.next.Goals as goal

pub overflow_add-self : goal.overflow_add-self
overflow_add-self c = omega (arith, size-within _ _ c.read_at-r.ensures.1 c.if-self-p.false)

pub returns-clause-goes : goal.returns-clause-goes
returns-clause-goes c = let w = size-within _ _ c.read_at-r.ensures.1 c.if-self-p.false in search rules
