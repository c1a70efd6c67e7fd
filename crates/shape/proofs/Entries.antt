-- What the code reads of an entry, its pair bytes put aside, is the entry of its bytes, its pair bytes aside.
use mathlib.Core.Path.{◌≡◌, refl}
use mathlib.Core.Bool.{Bool, true, false, cond}
use mathlib.Core.List.{List}
use Prim.Native.Nat.{ℕ, ◌+◌, ◌*◌, ◌/◌, ◌<◌}
use native.Mathlib.Omega.{arith}
use lib.Dec.{ltb, eqb}
use lib.ListN.{length}
use lib.Arith.{digits_div}
use borrow.Author.Tests.{eqb-true}
use Rattle.ground.specs.Bytes.{at, quad}
use Rattle.ground.specs.Chain.{refuse}
use Rattle.bundle.specs.declared.Class.{Class}
use Rattle.entries.specs.Entries.{Blank, zeros, entry_of, is_type, is_blank}
use Rattle.entries.specs.Words.{entry_from}
use Rattle.entries.proofs.Words.{word_bytes}
use Rattle.rows.specs.Words.{variable_word, stack_word, entry_word}
use Rattle.shape.specs.Shape.{aside, entry_aside, variable_aside, stack_aside}
use Rattle.shape.specs.Loops.{aside_word}

module _ (n a c d e : ℕ) (la : a < 256) (lc : c < 256) (ld : d < 256) (le : e < 256) where
  abbrev w : ℕ
  w = (a * 256 + c) * 65536 + (d * 256 + e)

  kind-of : w / 16777216 ≡ a
  kind-of = let q : w ≡ a * 16777216 + (c * 65536 + d * 256 + e) = omega arith in
      rw q (digits_div a {m = 16777216} {r = c * 65536 + d * 256 + e} (omega (arith, lc, ld, le)))

  half_of : w / 65536 ≡ a * 256 + c
  half_of = digits_div (a * 256 + c) {m = 65536} {r = d * 256 + e} (omega (arith, ld, le))

  aside-word : entry_from n (aside_word w) ≡ aside n a c d e
  unfolding aside_word aside
  aside-word = rw (kind-of, half_of) (go (eqb a 3) refl)
    where
      go : (t : Bool) → eqb a 3 ≡ t → entry_from n (cond t ((a * 256 + c) * 65536 + 1) w) ≡ cond t (entry_of n 3 c 0 1) (entry_of n a c d e)
      go true q = rw (eqb-true a 3 q) (word_bytes n 3 c 0 1 (omega arith) lc (omega arith) (omega arith))
      go false q = word_bytes n a c d e la lc ld le

blank : (n : ℕ) → entry_from n (aside_word 0) ≡ Blank
unfolding aside_word entry_from entry_of zeros refuse
blank n = refl

module _ (n : ℕ) (r : List ℕ) (bytes : (i : ℕ) → at r i < 256) where
  -- THEOREM: what is read is the entry at p, pair bytes aside
  pub entry-aside : (p : ℕ) → entry_from n (aside_word (quad r p)) ≡ entry_aside n r p
  unfolding quad entry_aside refuse
  entry-aside p = let q : p + 2 + 1 ≡ p + 3 = omega arith in rw q (either (ltb (p + 3) (length r)))
    where
      either : (t : Bool) → entry_from n (aside_word (cond t ((at r p * 256 + at r (p + 1)) * 65536 + (at r (p + 2) * 256 + at r (p + 3))) 0))
          ≡ cond t (aside n (at r p) (at r (p + 1)) (at r (p + 2)) (at r (p + 3))) Blank
      either true = aside-word n _ _ _ _ (bytes p) (bytes (p + 1)) (bytes (p + 2)) (bytes (p + 3))
      either false = blank n

  -- THEOREM: what is read is the entry of variable i, pair bytes aside
  variable-aside : (s i : ℕ) → entry_from n (aside_word (variable_word r s i)) ≡ variable_aside n r s i
  unfolding variable_aside variable_word
  variable-aside s i = entry-aside _

  -- THEOREM: .. and the stack entry j
  stack-aside : (k : Class) (s j : ℕ) → entry_from n (aside_word (entry_word k r s j)) ≡ stack_aside n k r s j
  unfolding stack_aside entry_word stack_word refuse
  stack-aside k s j = either (ltb j k.limit)
    where
      either : (t : Bool) → entry_from n (aside_word (cond t (quad r (s + 4 * k.vars + 1 + 4 * j)) 0)) ≡ cond t (entry_aside n r (s + 4 * k.vars + 1 + 4 * j)) Blank
      either true = entry-aside _
      either false = blank n

  -- the code's tests of what it read: w, and w' with its pair bytes aside
  module _ (w w' : ℕ) {o : Bool} (e : w' ≡ aside_word w) where
    pub variable-typed : (s i : ℕ) → w ≡ variable_word r s i → o ≡ is_type (entry_from n w') → o ≡ is_type (variable_aside n r s i)
    variable-typed s i q h = rw (← variable-aside s i, ← q, ← e) h

    pub stack-typed : (k : Class) (s j : ℕ) → w ≡ entry_word k r s j → o ≡ is_type (entry_from n w') → o ≡ is_type (stack_aside n k r s j)
    stack-typed k s j q h = rw (← stack-aside k s j, ← q, ← e) h

    pub stack-blank : (k : Class) (s j : ℕ) → w ≡ entry_word k r s j → o ≡ is_blank (entry_from n w') → o ≡ is_blank (stack_aside n k r s j)
    stack-blank k s j q h = rw (← stack-aside k s j, ← q, ← e) h
