use Rattle.std.proofs.Common.{◌∙◌}
use Rattle.forms.proofs.Columns.{rows_told, rows-refused}
use Rattle.forms.proofs.rows_formed.Goals as goal

pub returns-then-not-columns_formed : goal.returns-then-not-columns_formed
returns-then-not-columns_formed c = rows-refused _ _ _ cc

pub returns : goal.returns
returns c = c.rests_formed.ensures ∙ rows_told _ _ _ cc
