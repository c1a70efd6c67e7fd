-- For the code's own use: places of the code that were passed once, so that a search for an offset need not begin at 0. No answer depends on it.
use Rattle.std.specs.Prelude.{◌≡◌, true, length, get_or, List, ℕ, ◌≤◌}
use Rattle.offsets.specs.declared.places.Place.{Place}
use Rattle.offsets.specs.Offsets.{begins, count_to}

-- a place: an instruction begins at p, or the code ends there, and k are written before it
pub record Stands (code : List ℕ) (p k : ℕ) : Type 0 where
  pub inside : p ≤ length code
  pub here : begins code p ≡ true
  pub count : k ≡ count_to code p
  pub small : k ≤ p

-- the place that is looked up where the index has none
abbrev pub first : Place
first = record { at = 0; count = 0 }

pub record Indexed (code : List ℕ) (index : List Place) : Type 0 where
  pub each : (b : ℕ) → Stands code (get_or index b first).at (get_or index b first).count
