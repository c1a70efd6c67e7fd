use Rattle.std.proofs.Common.{rules}
use Rattle.entries.proofs.Words.{word_end}
use mathlib.Core.Path.{sym, ◌∙◌}
use Rattle.entries.proofs.end_of.Goals as goal

pub returns-then-is_reference : goal.returns-then-is_reference
returns-then-is_reference c = (c.end_in.ensures ∙ word_end _ _ (sym c.is_reference.ensures ∙ c.if-is_reference.true), search rules)
