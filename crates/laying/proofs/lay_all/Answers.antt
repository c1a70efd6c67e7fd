use Rattle.laying.proofs.Over.{lays_copied}
use Rattle.laying.proofs.lay_all.Goals as goal

pub returns : goal.returns
returns c = lays_copied _ _ _ _ c.copy_from_slice.ensures.after
