use Prim.Native.Nat.{◌+◌}
use native.Mathlib.Omega.{arith}
use lib.ListN.{length}
use borrow.Author.Tests.{lt-ltb}
use mathlib.Core.Path.{◌≡◌}
use Rattle.ground.specs.Bytes.{quad}
use Rattle.rows.proofs.word_within.Goals as goal

pub returns : goal.returns
unfolding quad
returns c =
    let a = c.args in
    let e : a.i + 2 + 1 ≡ a.i + 3 = omega arith in
    rw (lt-ltb (a.i + 3) (length a.r.now) c.requires, e, ← c.join.ensures, ← c.join-2.ensures) c.halves.ensures
