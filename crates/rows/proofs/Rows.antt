-- A row is read as it stands in the bundle: the number that is read of an entry is that of its bytes.
use mathlib.Core.Path.{◌≡◌, refl}
use mathlib.Core.Bool.{Bool, true, false, cond}
use mathlib.Core.List.{List}
use Prim.Native.Nat.{ℕ, ◌+◌, ◌*◌, ◌<◌, ◌≤◌}
use lib.Dec.{ltb}
use lib.ListN.{length}
use native.Mathlib.Omega.{arith}
use borrow.Author.Tests.{le-ltb, lt-ltb}
use Rattle.ground.specs.Bytes.{at, quad}
use Rattle.ground.specs.Chain.{refuse}
use Rattle.bundle.specs.declared.Class.{Class}
use Rattle.entries.specs.Entries.{Blank, zeros, entry_of}
use Rattle.entries.specs.Words.{entry_from}
use Rattle.entries.proofs.Words.{word_bytes}
use Rattle.rows.specs.Rows.{entry_at, variable_at, stack_at}
use Rattle.rows.specs.Words.{variable_word, stack_word, entry_word}

-- four zeros are no entry
blank : (n : ℕ) → entry_from n 0 ≡ Blank
unfolding entry_from entry_of zeros refuse
blank n = refl

module _ (n : ℕ) (r : List ℕ) (bytes : (i : ℕ) → at r i < 256) where
  entry-bytes : (p : ℕ) → entry_from n (quad r p) ≡ entry_at n r p
  unfolding quad entry_at refuse
  entry-bytes p = let e : p + 2 + 1 ≡ p + 3 = omega arith in rw e (either (ltb (p + 3) (length r)))
    where
      either : (t : Bool) → entry_from n (cond t ((at r p * 256 + at r (p + 1)) * 65536 + (at r (p + 2) * 256 + at r (p + 3))) 0)
          ≡ cond t (entry_of n (at r p) (at r (p + 1)) (at r (p + 2)) (at r (p + 3))) Blank
      either true = word_bytes n _ _ _ _ (bytes p) (bytes (p + 1)) (bytes (p + 2)) (bytes (p + 3))
      either false = blank n

  -- THEOREM: what is read is the entry of variable i
  pub variable-bytes : (s i : ℕ) → entry_from n (variable_word r s i) ≡ variable_at n r s i
  unfolding variable_at variable_word
  variable-bytes s i = entry-bytes _

  -- THEOREM: .. and the stack entry j, of a class with so many variables
  pub stack-bytes : (k : Class) (s j : ℕ) → entry_from n (entry_word k r s j) ≡ stack_at n k r s j
  unfolding stack_at entry_word stack_word refuse
  stack-bytes k s j = either (ltb j k.limit)
    where
      either : (t : Bool) → entry_from n (cond t (quad r (s + 4 * k.vars + 1 + 4 * j)) 0) ≡ cond t (entry_at n r (s + 4 * k.vars + 1 + 4 * j)) Blank
      either true = entry-bytes _
      either false = blank n

  -- .. where there is one
  pub stack-there : (k : Class) (s vars j : ℕ) → k.vars ≡ vars → j < k.limit → quad r (s + 4 * vars + 1 + 4 * j) ≡ entry_word k r s j
  unfolding entry_word stack_word refuse
  stack-there k s vars j e h = rw (← e, lt-ltb j k.limit h) refl

-- .. and none where there is none
pub stack-none : (n : ℕ) (r : List ℕ) (k : Class) (s j : ℕ) → k.limit ≤ j → (0 ≡ entry_word k r s j) × (entry_from n 0 ≡ stack_at n k r s j)
unfolding stack_at entry_word refuse
stack-none n r k s j h = (rw (le-ltb j k.limit h) refl, rw (le-ltb j k.limit h) (blank n))
