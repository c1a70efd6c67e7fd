use Rattle.state_written.specs.Written.{written}
use native.Mathlib.Numerals.{add-one}
use native.Mathlib.Omega.{arith}
use Prim.Native.Nat.{suc, ◌+◌}
use mathlib.Core.Path.{◌≡◌}
use Rattle.state_written.proofs.laid.U32Laid.put.Goals as goal

pub returns : goal.returns
unfolding written
returns c =
    let e₂ : c.args.p + 2 ≡ suc (suc c.args.p) = omega arith in
    let e₃ : c.args.p + 3 ≡ suc (suc (suc c.args.p)) = omega arith in
    rw (c.low-4.ensures, c.low-3.ensures, c.low-2.ensures, c.low.ensures, add-one, e₂, e₃)
