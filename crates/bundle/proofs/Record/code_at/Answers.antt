use borrow.Author.Tests.{le-leb, lt-leb}
use Rattle.ground.specs.Chain.{refuse}
use Rattle.bundle.specs.Container.{code_at}
use Rattle.bundle.proofs.Record.code_at.Goals as goal

pub returns-then-l-lt1 : goal.returns-then-l-lt1
unfolding code_at refuse
returns-then-l-lt1 c = rw (lt-leb _ _ c.if-l-lt1.true) c.no_code.ensures

pub returns-then-self-l : goal.returns-then-self-l
unfolding code_at refuse
returns-then-self-l c = rw (le-leb _ _ c.if-l-lt1.false, lt-leb _ _ c.if-self-l.true) c.no_code-then-self-l.ensures

pub returns : goal.returns
unfolding code_at refuse
returns c = rw (le-leb _ _ c.if-l-lt1.false, le-leb _ _ c.if-self-l.false, ← c.instruction_place.ensures.0) c.code_from.ensures
