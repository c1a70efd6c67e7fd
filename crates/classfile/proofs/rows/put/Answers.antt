use Rattle.classfile.proofs.Laid.{put_four}
use Rattle.classfile.proofs.rows.put.Goals as goal

pub returns : goal.returns
returns c = put_four _ _ _ _ _ _ c.requires
