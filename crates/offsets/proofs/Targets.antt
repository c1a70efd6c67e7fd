-- A place that was sought, as a target; and the offset that a branch goes to.
use mathlib.Core.Path.{◌≡◌}
use mathlib.Core.Bool.{false, ◌&&◌}
use mathlib.Core.List.{List}
use Prim.Native.Nat.{ℕ, ◌≤◌, ◌<◌}
use lib.ListN.{length}
use lib.Dec.{eqb, ltb}
use borrow.Author.Tests.{lt-ltb, le-ltb}
use Rattle.offsets.specs.Offsets.{begins, count_to, total}
use Rattle.offsets.specs.Targets.{lands}

pub lands-past : (code : List ℕ) (t : ℕ) → length code ≤ t → false ≡ lands code t
unfolding lands
lands-past code t l = rw (le-ltb t (length code) l)

pub lands-at : (code : List ℕ) (t p k all : ℕ) → t < length code → (eqb p t ≡ begins code t) × (k ≡ count_to code t) → all ≡ total code
    → (eqb p t && ltb k all) ≡ lands code t
unfolding lands
lands-at code t p k all l e a = rw (lt-ltb t (length code) l, e.0, e.1, a)
