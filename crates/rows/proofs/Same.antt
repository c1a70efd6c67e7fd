-- Rows compared without taking their entries apart, and what that says of their variables.
use mathlib.Core.Path.{◌≡◌, refl, sym, ap, ◌∙◌}
use mathlib.Core.Bool.{Bool, true, false, ◌&&◌, ◌||◌, not}
use mathlib.Core.List.{List}
use Prim.Native.Nat.{ℕ, ◌+◌, ◌*◌, ◌-◌, ◌<◌, ◌≤◌}
use native.Mathlib.Omega.{arith}
use lib.Dec.{ltb, leb, eqb}
use lib.ListN.{length}
use borrow.Author.Tests.{ltb-true, ltb-false, lt-leb, le-leb, eqb-true}
use Rattle.ground.specs.Bounded.{all_below}
use Rattle.ground.specs.Bytes.{at, quad}
use Rattle.ground.proofs.Bools.{and-fst, and-snd, and-false, or_right, or-false-fst, or-false-snd}
use Rattle.ground.proofs.Bounded.{all-elim}
use Rattle.entries.specs.Words.{entry_from}
use Rattle.rows.specs.Rows.{variable_at}
use Rattle.rows.specs.Words.{variable_word, same_or_named, same_but}
use Rattle.rows.proofs.Rows.{variable-bytes}

neither : (x y t : Bool) → (not x && not y) ≡ t → (x || y) ≡ not t
neither true y t e = ap not e
neither false true t e = ap not e
neither false false t e = ap not e

module _ (r : List ℕ) (p q n v : ℕ) where
  pub same-short : length r < 4 * n → false ≡ same_but r p q n v
  unfolding same_but
  same-short l = rw (lt-leb (4 * n) (length r) l)

  pub same_out : (ltb (length r - 4 * n) p || ltb (length r - 4 * n) q) ≡ true → false ≡ same_but r p q n v
  unfolding same_but
  same_out e = go (ltb (length r - 4 * n) p) refl
    where
      go : (t : Bool) → ltb (length r - 4 * n) p ≡ t → false ≡ same_but r p q n v
      go true x = rw (lt-leb p (length r - 4 * n) (ltb-true _ _ x), and-false (leb (4 * n) (length r)))
      go false x = rw (lt-leb q (length r - 4 * n) (ltb-true _ _ (or_right _ _ e x)), and-false (leb (4 * n) (length r) && leb p (length r - 4 * n)))

  pub same_in : 4 * n ≤ length r → (ltb (length r - 4 * n) p || ltb (length r - 4 * n) q) ≡ false → (p + 4 * n ≤ length r) × (q + 4 * n ≤ length r)
  same_in l e =
      let x = ltb-false (length r - 4 * n) p (or-false-fst _ _ e) in
      let y = ltb-false (length r - 4 * n) q (or-false-snd (ltb (length r - 4 * n) p) _ e) in (omega (arith, x), omega (arith, y))

  -- a turn: words a and b are read, and a difference is told or not
  pub same_turn : (i a b : ℕ) → a ≡ quad r (p + 4 * i) → b ≡ quad r (q + 4 * i) → (t : Bool) → (not (eqb i v) && not (eqb a b)) ≡ t → same_or_named r p q v i ≡ not t
  unfolding variable_word
  same_turn i a b x y t e = rw (← x, ← y) (neither (eqb i v) (eqb a b) t e)

  -- all there: what the entries say
  pub same-there : p + 4 * n ≤ length r → q + 4 * n ≤ length r → all_below n (same_or_named r p q v) ≡ same_but r p q n v
  unfolding same_but
  same-there a b =
      rw (le-leb (4 * n) (length r) (omega arith), le-leb p (length r - 4 * n) (omega arith), le-leb q (length r - 4 * n) (omega arith))

  -- THEOREM: .. every variable but v has the same four bytes in both rows
  pub same-words : same_but r p q n v ≡ true → (i : ℕ) → i < n → eqb i v ≡ false → variable_word r p i ≡ variable_word r q i
  unfolding same_but
  same-words e i l f = eqb-true _ _ (or_right _ _ (all-elim (same_or_named r p q v) n (search (and-fst, and-snd)) i l) f)

-- THEOREM: and so is the same entry
pub same-variables : (n : ℕ) (r : List ℕ) → ((i : ℕ) → at r i < 256) → (p q vars v : ℕ) → same_but r p q vars v ≡ true → (i : ℕ) → i < vars → eqb i v ≡ false → variable_at n r p i ≡ variable_at n r q i
same-variables n r bytes p q vars v e i l f =
    sym (variable-bytes n r bytes p i) ∙ ap (entry_from n) (same-words r p q vars v e i l f) ∙ variable-bytes n r bytes q i
