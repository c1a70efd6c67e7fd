use mathlib.Core.Path.{◌≡◌, ◌∙◌}
use Prim.Native.Nat.{◌+◌}
use native.Mathlib.Omega.{arith}
use Rattle.bundle.specs.Container.{code_from}
use Rattle.runner.proofs.table.instruction_from.Goals as goal

pub returns : goal.returns
unfolding code_from
returns c = let e : c.args.p + 2 + 1 ≡ c.args.p + 3 = omega arith in c.instruction_of.ensures ∙ (rw (e, c.join.ensures))
