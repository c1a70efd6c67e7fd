-- The pairs worked out: x before, t whether there are any, x' after. Of contracts inside the crate only.
use Rattle.std.specs.Prelude.{List, ◌≡◌, Bool, true, false, ℕ, length}
use Rattle.shape.specs.Apart.{Readable}
use Rattle.choices.specs.Choice.{Choice, Accepted, Least}

pub record Sought (x : List ℕ) (t : Bool) (x' : List ℕ) : Type 0 where
  pub found : Readable x → t ≡ true → Least x x'
  pub nothing : Readable x → t ≡ false → (y : List ℕ) → Choice x y → Accepted y → ⊥
  pub long : length x' ≡ length x

-- .. or the bundle put back
pub record Worked (x : List ℕ) (t : Bool) (x' : List ℕ) : Type 0 where
  pub found : Readable x → t ≡ true → Least x x'
  pub back : t ≡ false → x' ≡ x
  pub nothing : Readable x → t ≡ false → (y : List ℕ) → Choice x y → Accepted y → ⊥
