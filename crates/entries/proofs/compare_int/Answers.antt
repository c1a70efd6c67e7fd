use Rattle.entries.proofs.Types.{int-compared}
use Rattle.entries.proofs.compare_int.Goals as goal

pub returns : goal.returns
returns c = rw (← int-compared, ← c.is_int.ensures, ← c.is_top.ensures) c.fit.ensures
