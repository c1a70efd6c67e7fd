use mathlib.Core.Path.{ap, ◌∙◌}
use native.Mathlib.Omega.{arith}
use Rattle.entries.specs.Words.{entry_from}
use Rattle.rows.specs.Words.{variable_word}
use Rattle.rows.proofs.Rows.{variable-bytes}
use Rattle.rows.proofs.read_variable.Goals as goal

pub returns-clause-word : goal.returns-clause-word
unfolding variable_word
returns-clause-word c = c.quad.ensures

pub returns-clause-entry : goal.returns-clause-entry
unfolding variable_word
returns-clause-entry c n = ap (entry_from n) c.quad.ensures ∙ variable-bytes n c.args.r.now (λ i. omega (arith, c.type_inv.r i)) _ _
