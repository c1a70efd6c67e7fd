use Rattle.needs.specs.Needs.{both}
use Rattle.needs.proofs.Entries.{max-greater}
use Rattle.needs.proofs.both.Goals as goal

pub returns : goal.returns
unfolding both
returns c = rw (c.max.ensures, c.max-2.ensures, max-greater c.args.p.dip c.args.q.dip, max-greater c.args.p.end c.args.q.end)
