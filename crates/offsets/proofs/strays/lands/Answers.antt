use Rattle.offsets.proofs.Targets.{lands-past, lands-at}
use Rattle.offsets.proofs.strays.lands.Goals as goal

pub returns-then-code-t : goal.returns-then-code-t
returns-then-code-t c = lands-past _ _ c.if-code-t.true

pub returns : goal.returns
returns c = lands-at _ _ _ _ _ c.if-code-t.false c.seek-x.ensures c.requires.0
