use Rattle.rules.specs.Rules.{owner_goes}
use Rattle.rules.proofs.owner_goes.Goals as goal

pub returns : goal.returns
unfolding owner_goes
returns c = rw (c.may_be_of.ensures, c.may_go.ensures)
