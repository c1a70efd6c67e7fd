use Rattle.entries.proofs.Words.{reference-word}
use Rattle.entries.proofs.is_reference.Goals as goal

pub returns : goal.returns
returns c = rw (c.kind_in.ensures, c.pair_ok.ensures, c.class_in.ensures, c.dip_in.ensures, c.end_in.ensures) (reference-word _ _)
