use Rattle.entries.proofs.Words.{nullable-word}
use Rattle.entries.proofs.is_nullable.Goals as goal

pub returns : goal.returns
returns c = rw (c.kind_in.ensures, c.nullable_ok.ensures, c.class_in.ensures, c.dip_in.ensures, c.end_in.ensures) (nullable-word _ _)
