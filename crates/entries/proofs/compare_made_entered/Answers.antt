use Rattle.entries.proofs.Types.{made-taken}
use Rattle.entries.specs.Fits.{compare}
use Rattle.entries.proofs.compare_made_entered.Goals as goal

pub returns : goal.returns
unfolding compare
returns c = rw (← made-taken, ← c.is_top.ensures, ← c.may_be_of.ensures, ← c.dip_of.ensures.0, ← c.saturating_sub.ensures, ← c.end_of.ensures.0) c.compared.ensures
