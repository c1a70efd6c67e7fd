use borrow.Author.Tests.{lt-ltb, le-ltb}
use Rattle.state.specs.State.{fields_with, with_object}
use Rattle.state.proofs.add_object.Goals as goal

pub returns-then-o-lt32 : goal.returns-then-o-lt32
unfolding with_object fields_with
returns-then-o-lt32 c = rw (lt-ltb _ _ c.if-o-lt32.true)

pub returns : goal.returns
unfolding with_object
returns c = rw (le-ltb _ _ c.if-o-lt32.false)
