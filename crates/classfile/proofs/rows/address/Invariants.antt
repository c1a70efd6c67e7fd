use Rattle.ground.specs.Bytes.{at}
use lib.Dec.{leb}
use mathlib.Core.Bool.{false}
use Prim.Native.Nat.{ℕ, ◌<◌}
use mathlib.Core.Path.{◌≡◌}
use Rattle.classfile.proofs.rows.address.Given as goal

abbrev pub invariant-loop-k : goal.invariant-loop-k
invariant-loop-k l = (q : ℕ) → q < l.k → leb l.t (at l.m.starts.now q) ≡ false
