use Rattle.laying.specs.Laid.{record_laid}
use Rattle.laying.proofs.Over.{lays-then, room_next}
use Rattle.laying.proofs.lay_record.Goals as goal

pub returns : goal.returns
unfolding record_laid
returns c = lays-then _ _ c.lay_all-i.ensures c.requires (lays-then _ _ c.lay_all-q.ensures (room_next _ _ c.lay_all-i.ensures _ c.requires) c.lay_rows.ensures)
