use Rattle.offsets.proofs.Index.{first-indexed}
use Rattle.offsets.proofs.first_stray.Goals as goal

pub stray_by-requires : goal.stray_by-requires
stray_by-requires c = (c.total-all.ensures, first-indexed _ 4096)
