use Rattle.runner.specs.Locks.{left_in}
use Rattle.runner.proofs.locks.exit.Goals as goal

pub returns : goal.returns
unfolding left_in
returns c = rw (c.go.ensures, c.mark.ensures, c.object_in-o.ensures, c.var.ensures)
