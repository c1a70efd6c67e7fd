use Rattle.offsets.proofs.Turns.{stands-first}
use Rattle.offsets.proofs.Index.{first-indexed}
use Rattle.offsets.proofs.first_stray_entry.Goals as goal

pub reach-requires : goal.reach-requires
reach-requires c = (stands-first _, first-indexed _ 4096, c.window_end-goal.ensures)
