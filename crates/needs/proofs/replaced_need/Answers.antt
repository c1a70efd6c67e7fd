use Rattle.needs.proofs.Stacks.{replaced-first, replaced-below}
use Rattle.needs.proofs.replaced_need.Goals as goal

pub returns-then-j-eq0 : goal.returns-then-j-eq0
returns-then-j-eq0 c = replaced-first _ _ _ _ _ c.if-j-eq0.true c.gone.ensures

pub returns : goal.returns
returns c = replaced-below _ _ _ _ _ c.if-j-eq0.false c.stacked.ensures
