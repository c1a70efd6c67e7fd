use native.Mathlib.Omega.{arith}
use Prim.Native.Nat.{◌+◌}
use mathlib.Core.Path.{◌≡◌}
use Rattle.bundle.specs.Container.{code_from}
use Rattle.bundle.proofs.code_from.Goals as goal

pub returns-then-p-r : goal.returns-then-p-r
unfolding code_from
returns-then-p-r c = let e : c.args.p + 2 + 1 ≡ c.args.p + 3 = omega arith in rw (e, c.join.ensures)

pub returns : goal.returns
unfolding code_from
returns c = rw (c.byte.ensures, c.byte-2.ensures, c.word.ensures)
