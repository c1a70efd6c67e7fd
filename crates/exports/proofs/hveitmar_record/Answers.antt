use borrow.Author.Tests.{eq-eqb, ne_eqb}
use Rattle.exports.specs.Exports.{packed_record}
use Rattle.exports.proofs.hveitmar_record.Goals as goal

pub returns-then-n-eq0 : goal.returns-then-n-eq0
unfolding packed_record
returns-then-n-eq0 c = rw (← c.record-n.ensures.0, eq-eqb _ _ c.if-n-eq0.true)

pub returns : goal.returns
unfolding packed_record
returns c = rw (← c.record-n.ensures.0, ne_eqb _ _ c.if-n-eq0.false, ← c.class_at.ensures)
