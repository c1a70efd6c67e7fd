use Rattle.state_written.specs.Written.{written}
use native.Mathlib.Numerals.{add-one}
use Rattle.state_written.proofs.laid.U16Laid.put.Goals as goal

pub returns : goal.returns
unfolding written
returns c = rw (c.low-2.ensures, c.low.ensures, add-one)
