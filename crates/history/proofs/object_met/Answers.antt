use Rattle.history.specs.Meeting.{object_met}
use Rattle.history.proofs.object_met.Goals as goal

pub returns-then-x : goal.returns-then-x
unfolding object_met
returns-then-x c = rw (c.object_in.ensures, c.var.ensures, c.if-x.true)

pub returns : goal.returns
unfolding object_met
returns c = rw c.if-x.false
