use Rattle.needs.proofs.Stacks.{pushed-past}
use Rattle.needs.proofs.pushed_need.Goals as goal

pub returns : goal.returns
returns c = pushed-past _ _ _ _ _ c.if-j-m.false c.gone.ensures
