use Rattle.bundle.specs.Program.{program_of}
use Rattle.belongs.specs.Belongs.{first_ok}
use Rattle.belongs.proofs.first_ok.Goals as goal

pub returns : goal.returns
unfolding first_ok program_of
returns c = rw (c.byte.ensures, c.exception.ensures)
