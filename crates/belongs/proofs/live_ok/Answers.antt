use borrow.Author.Tests.{le-ltb, lt-ltb}
use Rattle.bundle.specs.Program.{program_of, method_at, method_of}
use Rattle.belongs.specs.Belongs.{live_ok}
use Rattle.belongs.proofs.live_ok.Goals as goal

pub returns-then-classes-t : goal.returns-then-classes-t
unfolding live_ok program_of
returns-then-classes-t c = rw (← c.classes.ensures, le-ltb _ _ c.if-classes-t.true)

pub returns : goal.returns
unfolding live_ok program_of method_at method_of
returns c = rw (← c.classes.ensures, lt-ltb _ _ c.if-classes-t.false, ← c.class_at.ensures) c.placed_ok.ensures
