use mathlib.Core.Path.{ap, ◌∙◌}
use native.Mathlib.Omega.{arith}
use Rattle.entries.specs.Words.{entry_from}
use Rattle.rows.proofs.Rows.{stack-bytes, stack-there}
use Rattle.rows.proofs.read_stack.Goals as goal

pub returns-clause-word : goal.returns-clause-word
returns-clause-word c k e h = c.quad.ensures ∙ stack-there 0 c.args.r.now (λ i. omega (arith, c.type_inv.r i)) k _ _ _ e h

pub returns-clause-entry : goal.returns-clause-entry
returns-clause-entry c n k e h =
    ap (entry_from n) (c.quad.ensures ∙ stack-there n c.args.r.now (λ i. omega (arith, c.type_inv.r i)) k _ _ _ e h)
    ∙ stack-bytes n c.args.r.now (λ i. omega (arith, c.type_inv.r i)) k _ _
