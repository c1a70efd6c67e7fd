use Rattle.state_bytes.specs.Format.{state_of}
use Rattle.state_bytes.proofs.Reading.{threads-alike, classes-alike}
use Rattle.state_bytes.proofs.state.Goals as goal

pub returns : goal.returns
unfolding state_of
returns c =
    let g = c.args.g.now in
    rw (c.read_all.ensures, c.read_all-2.ensures, c.read_all-3.ensures, c.read_all-4.ensures, c.read_all-5.ensures, c.byte.ensures, c.idle.ensures, c.zero_slot.ensures, threads-alike g _, classes-alike g _)
