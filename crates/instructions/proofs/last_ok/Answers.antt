use borrow.Author.Tests.{ne_eqb, eq-eqb}
use Rattle.instructions.specs.Table.{last_ok}
use Rattle.instructions.proofs.last_ok.Goals as goal

pub returns-then-l-code : goal.returns-then-l-code
unfolding last_ok
returns-then-l-code c = rw (ne_eqb _ _ c.if-l-code.true)

pub returns : goal.returns
unfolding last_ok
returns c = rw (eq-eqb _ _ c.if-l-code.false) c.ends_code.ensures
