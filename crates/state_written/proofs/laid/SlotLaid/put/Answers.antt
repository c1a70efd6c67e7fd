use Rattle.state_written.specs.Written.{written}
use native.Mathlib.Numerals.{add-one}
use Rattle.state_written.proofs.laid.SlotLaid.put.Goals as goal

pub returns : goal.returns
unfolding written
returns c = rw (c.put.ensures, c.number.ensures, c.kind.ensures, add-one)
