-- Whether one or another rose, in the numbers of passes.
use mathlib.Core.Path.{◌≡◌, refl}
use mathlib.Core.Bool.{Bool, true, false, ◌||◌}
use Prim.Native.Nat.{ℕ}
use Rattle.std.specs.Prelude.{Ok}
use native.Mathlib.Omega.{arith}
use Rattle.passes.specs.Passes.{either}
use Rattle.pairs.specs.Rises.{rise_in}

pub either-rose : (t u : Bool) → rise_in (Ok (t || u)) ≡ either (rise_in (Ok t)) (rise_in (Ok u))
unfolding either
either-rose true true = refl
either-rose true false = refl
either-rose false true = refl
either-rose false false = refl

pub either-over : (o : ℕ) → either o 2 ≡ 2
unfolding either
either-over o = refl

pub in_range : (t : Bool) → rise_in (Ok t) ≡ 2 → ⊥
in_range true e = omega arith
in_range false e = omega arith
