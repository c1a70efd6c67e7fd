-- What the reads of the container say.
use mathlib.Core.List.{List}
use mathlib.Core.Path.{◌≡◌}
use mathlib.Core.Bool.{true}
use Prim.Native.Nat.{ℕ, ◌+◌, ◌-◌, ◌≤◌}
use lib.ListN.{length}
use native.Mathlib.Omega.{arith}
use borrow.Author.Tests.{leb-true}
use Rattle.bundle.specs.declared.Class.{Class}
use Rattle.bundle.specs.Container.{size, record_fits}

-- a record that fits ends within the bundle
pub fits-end : (b : List ℕ) (k : Class) → record_fits b k ≡ true → k.offset + size k ≤ length b
unfolding record_fits
fits-end b k e = omega (arith, leb-true (k.offset + size k) (length b - 8) e)
