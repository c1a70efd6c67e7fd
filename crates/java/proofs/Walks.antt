-- A step of the walk, over the code that the walk began with.
use mathlib.Core.Path.{◌≡◌, ◌∙◌}
use mathlib.Core.List.{List}
use Prim.Native.Nat.{ℕ, ◌≤◌}
use lib.ListN.{length}
use Rattle.std.specs.Prelude.{Some, None}
use Rattle.java.specs.declared.steps.Placed.{Placed}
use Rattle.java.specs.declared.steps.Steps.{Steps}
use Rattle.java.specs.Walks.{Goes, WalksOn}

module _ {code : List ℕ} {s t : Steps} where
  pub walk-some : {x : Placed} → s.code.now ≡ code → WalksOn s (Some x) t → (t.code.now ≡ code) × Goes code s.at x t.at
  walk-some e w = (w.code ∙ e, rw e at w.item)

  pub walk-none : s.code.now ≡ code → WalksOn s None t → length code ≤ s.at
  walk-none e w = rw e at w.item.0
