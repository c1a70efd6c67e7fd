use Rattle.laying.specs.Laid.{row_laid}
use Rattle.laying.proofs.Over.{lays-between}
use Rattle.laying.proofs.lay_row.Goals as goal

pub returns : goal.returns
unfolding row_laid
returns c = lays-between _ _ c.requires c.byte.ensures c.lay_entries-v.ensures c.lay_all-d.ensures c.lay_entries.ensures
