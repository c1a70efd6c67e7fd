use Rattle.rows.specs.Rows.{depth_at}
use Rattle.rows.proofs.read_depth.Goals as goal

pub returns : goal.returns
unfolding depth_at
returns c = c.byte.ensures
