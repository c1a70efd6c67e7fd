-- A held word is written only where its count is.
use mathlib.Core.List.{List, [], ◌∷◌}
use mathlib.Core.Path.{◌≡◌, refl, ap}
use Prim.Native.Nat.{ℕ, zero, suc, ◌+◌, ◌*◌, ◌<◌, ◌≤◌}
use lib.ListN.{length, get_or, set}
use lib.Seq.{set_out}
use native.Mathlib.Omega.{arith}
use native.Mathlib.Decide.{dec_lt}
use Rattle.held.specs.Word.{marked}
use Rattle.held.proofs.Word.{marked-past}

-- what a place holds, written there
set_own : (l : List ℕ) (i : ℕ) → set l i (get_or l i 0) ≡ l
set_own [] i = refl
set_own (x ∷ l) zero = refl
set_own (x ∷ l) (suc i) = ap (λ (m : List ℕ). x ∷ m) (set_own l i)

-- past the last count there is no thread, or its word has no such bit
pub no_word : (held : List ℕ) (i o n : ℕ) → length held ≡ 8 → 256 ≤ i * 32 + o → set held i (marked (get_or held i 0) o n) ≡ held
no_word held i o n l past = go (dec_lt i 8)
  where
    go : Dec (i < 8) → set held i (marked (get_or held i 0) o n) ≡ held
    go (yes q) = rw (marked-past (get_or held i 0) o n (omega arith)) (set_own held i)
    go (no q) = set_out held i (marked (get_or held i 0) o n) (omega arith)
