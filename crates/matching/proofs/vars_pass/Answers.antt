use Rattle.matching.proofs.Same.{same-pass}
use Rattle.matching.proofs.vars_pass.Goals as goal

pub returns-then-vars_same : goal.returns-then-vars_same
returns-then-vars_same c = same-pass _ _ _ (c.vars_same.ensures.entries c.if-vars_same.true)
