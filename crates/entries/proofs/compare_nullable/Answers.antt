use Rattle.entries.proofs.Types.{nullable-compared}
use Rattle.entries.proofs.compare_nullable.Goals as goal

pub returns : goal.returns
returns c = rw (← nullable-compared, ← c.is_top.ensures, ← c.is_nullable.ensures, ← c.class_of.ensures) c.fit.ensures
