use mathlib.Core.Path.{◌∙◌}
use Rattle.entries.proofs.Words.{either-class}
use Rattle.entries.proofs.class_of.Goals as goal

pub returns-then-is_reference-is_nullable : goal.returns-then-is_reference-is_nullable
returns-then-is_reference-is_nullable c = c.class_in.ensures ∙ either-class _ _ (rw (c.is_reference.ensures, c.is_nullable.ensures) at c.if-is_reference-is_nullable.true)
