-- What the type of an array of slots tells of its list.
use mathlib.Core.Path.{◌≡◌, sym, ◌∙◌}
use mathlib.Core.List.{List, map}
use Prim.Native.Nat.{ℕ}
use lib.ListN.{length, length-map}

pub length-mapped : {X Y : Type 0} (f : X → Y) (l : List X) (n : ℕ) → length (map f l) ≡ n → length l ≡ n
length-mapped f l n e = sym (length-map l f) ∙ e
