use Rattle.runner.specs.Objects.{new_in}
use Rattle.runner.specs.Memory.{acted}
use borrow.Author.Tests.{le-leb, lt-leb}
use mathlib.Core.Path.{ap}
use Rattle.runner.proofs.objects.new.Goals.{then-fails-via-then-fails, then-fails-via-else-fails+then-m-ge32}
use Rattle.runner.proofs.objects.new.Goals as goal

pub returns-then-fails : goal.returns-then-fails
unfolding new_in
returns-then-fails c =
    elim c.then-fails.branch [
      | then-fails-via-then-fails w ↦ rw w.if-fails.true c.throw.ensures
      | then-fails-via-else-fails+then-m-ge32 w ↦ rw (w.if-fails.false, le-leb _ _ w.if-m-ge32.true) c.throw.ensures
    ]

pub returns : goal.returns
unfolding new_in
returns c = rw (c.if-fails.false, lt-leb _ _ c.if-m-ge32.false, ← c.push.ensures) (ap (acted 0) c.add.ensures)
