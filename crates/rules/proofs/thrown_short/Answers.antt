use mathlib.Core.Path.{refl}
use borrow.Author.Tests.{ne_eqb, eq-eqb}
use Rattle.rules.proofs.Judging.{answered, short-then, fits-then}
use Rattle.rules.proofs.thrown_short.Goals as goal

pub returns-then-x-eq0 : goal.returns-then-x-eq0
returns-then-x-eq0 c = rw (eq-eqb _ _ c.if-x-eq0.true)

pub returns-in_err-emptied_edge : goal.returns-in_err-emptied_edge
returns-in_err-emptied_edge c = rw (ne_eqb _ _ c.if-x-eq0.false, answered _ c.from_residual.ensures.1) (short-then _ _ c.in_err-emptied_edge.ensures)

pub returns : goal.returns
returns c = rw (ne_eqb _ _ c.if-x-eq0.false) (fits-then c.in_ok-emptied_edge.ensures refl)
