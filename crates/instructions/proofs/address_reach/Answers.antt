use mathlib.Core.Path.{refl, sym, ap, ◌∙◌}
use mathlib.Core.Bool.{Bool, cond}
use Prim.Native.Nat.{◌%◌}
use native.Mathlib.Omega.{arith}
use Rattle.instructions.proofs.Limits.{reach-told}
use Rattle.instructions.proofs.address_reach.Goals as goal

pub returns-then-line : goal.returns-then-line
returns-then-line c =
    sym (ap (λ (t : Bool). cond t c.args.code 0) c.if-line.true) ∙ reach-told c.args.code c.args.opcode (c.args.opcode % 16) (omega arith) refl

pub returns : goal.returns
returns c =
    sym (ap (λ (t : Bool). cond t c.args.code 0) c.if-line.false) ∙ reach-told c.args.code c.args.opcode (c.args.opcode % 16) (omega arith) refl
