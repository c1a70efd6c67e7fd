use Rattle.turns.proofs.starts.argument_at.Goals as goal

pub returns : goal.returns
returns c = rw (c.is_argument.ensures, c.byte.ensures, c.from_top.ensures)
