use borrow.Author.Tests.{lt-ltb, le-ltb, lt-leb, le-leb}
use Rattle.ground.specs.Chain.{refuse}
use Rattle.offsets.specs.Targets.{target_of}
use Rattle.offsets.proofs.target.Goals as goal

pub returns-then-code-p : goal.returns-then-code-p
unfolding target_of refuse
returns-then-code-p c = rw (le-ltb _ _ c.if-code-p.true)

pub returns-then-e-lt32768 : goal.returns-then-e-lt32768
unfolding target_of refuse
returns-then-e-lt32768 c = rw (lt-ltb _ _ c.if-code-p.false, lt-ltb _ _ c.if-e-lt32768.true)

pub returns-then-p-e-ge65536 : goal.returns-then-p-e-ge65536
unfolding target_of refuse
returns-then-p-e-ge65536 c = rw (lt-ltb _ _ c.if-code-p.false, le-ltb _ _ c.if-e-lt32768.false, le-leb _ _ c.if-p-e-ge65536.true)

pub returns : goal.returns
unfolding target_of refuse
returns c = rw (lt-ltb _ _ c.if-code-p.false, le-ltb _ _ c.if-e-lt32768.false, lt-leb _ _ c.if-p-e-ge65536.false)
