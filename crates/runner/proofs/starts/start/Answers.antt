use Rattle.runner.specs.Starts.{started_in}
use borrow.Author.Tests.{lt-leb}
use Rattle.runner.proofs.starts.start.Goals as goal

pub returns-in-None : goal.returns-in-None
unfolding started_in
returns-in-None c = rw (← c.in-None.ensures.place)

pub returns-in-Some : goal.returns-in-Some
unfolding started_in
returns-in-Some c = rw (← c.in-Some.ensures.place, lt-leb _ _ c.in-Some.ensures.within, c.drop.ensures, c.begin.ensures, c.arguments-vars.ensures)
