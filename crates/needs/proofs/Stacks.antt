-- Stack entries as the code numbers them.
use mathlib.Core.List.{List}
use mathlib.Core.Path.{◌≡◌, ap, ◌∙◌}
use Prim.Native.Nat.{ℕ, suc, ◌+◌, ◌≤◌}
use native.Mathlib.Omega.{arith}
use borrow.Author.Tests.{lt-ltb, le-ltb}
use Rattle.ground.specs.Chain.{refuse}
use Rattle.bundle.specs.declared.Class.{Class}
use Rattle.rows.specs.Rows.{stack_at, row_from}
use Rattle.needs.specs.declared.Pair.{Pair}
use Rattle.needs.specs.Needs.{fitting, gone, below, taken}

module _ (n : ℕ) (k : Class) (r : List ℕ) (s j : ℕ) {o : Pair} where
  -- the top goes, and another comes in its stead
  pub replaced-first : j ≡ 0 → o ≡ gone → o ≡ taken gone 1 (below (row_from n k r s)) j
  unfolding taken
  replaced-first e q = rw (lt-ltb j 1 (omega arith)) q

  pub replaced-below : (j ≡ 0 → ⊥) → o ≡ fitting ((row_from n k r s).stack j) → o ≡ taken gone 1 (below (row_from n k r s)) j
  unfolding taken
  replaced-below e q = rw (le-ltb j 1 (omega arith)) (q ∙ ap (λ (m : ℕ). fitting ((row_from n k r s).stack m)) (omega arith))

  -- one comes on top
  pub pushed-below : o ≡ fitting ((row_from n k r s).stack (j + 1)) → o ≡ fitting (below (row_from n k r s) j)
  pushed-below q = q ∙ ap (λ (m : ℕ). fitting ((row_from n k r s).stack m)) (omega arith)

  -- past the limit no entry stands
  pub pushed-past : k.limit ≤ j → o ≡ gone → o ≡ fitting (below (row_from n k r s) j)
  unfolding stack_at refuse
  pushed-past l q = rw (le-ltb (suc j) k.limit (omega arith)) q
