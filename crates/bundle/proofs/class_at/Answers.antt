use Rattle.bundle.specs.Container.{class_at}
use Rattle.bundle.proofs.class_at.Goals as goal

pub returns : goal.returns
unfolding class_at
returns c = rw (← c.directory_at.ensures) c.head_at.ensures
