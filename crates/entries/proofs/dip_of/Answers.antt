use Rattle.std.proofs.Common.{rules}
use Rattle.entries.proofs.Words.{word-dip}
use mathlib.Core.Path.{sym, ◌∙◌}
use Rattle.entries.proofs.dip_of.Goals as goal

pub returns-then-is_reference : goal.returns-then-is_reference
returns-then-is_reference c = (c.dip_in.ensures ∙ word-dip _ _ (sym c.is_reference.ensures ∙ c.if-is_reference.true), search rules)
