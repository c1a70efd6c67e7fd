-- An entry is four bytes: what is read of the number that they make is what they are.
use mathlib.Core.Path.{◌≡◌, refl, sym, ◌∙◌}
use mathlib.Core.Bool.{Bool, true, false, ◌&&◌, ◌||◌}
use Prim.Native.Nat.{ℕ, ◌+◌, ◌*◌, ◌/◌, ◌%◌, ◌<◌}
use native.Mathlib.Nat.{div-add-mod'}
use native.Mathlib.Omega.{arith}
use lib.Dec.{eqb}
use lib.Arith.{digits_div, digits_mod, mod-mul}
use borrow.Author.Tests.{eqb-true, eq-eqb, ne_eqb}
use Rattle.ground.proofs.Bools.{and-fst, and-snd, never}
use Rattle.entries.specs.Entries.{Ref, zeros, pair_ok, nullable_ok, entry_of, dip_of, end_of, class_of, is_int, is_top, is_blank, is_reference, is_nullable}
use Rattle.entries.specs.Fits.{takes, compare, want}
use Rattle.entries.specs.Words.{entry_from}
use Rattle.entries.proofs.Types.{blank-bytes, int-bytes, top-bytes, reference-bytes, nullable-bytes, reference-is, nullable-is, fits-itself}

module _ (n a b c d : ℕ) (la : a < 256) (lb : b < 256) (lc : c < 256) (ld : d < 256) where
  abbrev w : ℕ
  w = (a * 256 + b) * 65536 + (c * 256 + d)

  first : w / 16777216 ≡ a
  first = let e : w ≡ a * 16777216 + (b * 65536 + c * 256 + d) = omega arith in
      rw e (digits_div a {m = 16777216} {r = b * 65536 + c * 256 + d} (omega (arith, lb, lc, ld)))

  second : w / 65536 % 256 ≡ b
  second = rw (digits_div (a * 256 + b) {m = 65536} {r = c * 256 + d} (omega (arith, lc, ld))) (digits_mod a {m = 256} {r = b} lb)

  in_bytes : w ≡ ((a * 256 + b) * 256 + c) * 256 + d
  in_bytes = omega arith

  third : w / 256 % 256 ≡ c
  third = rw (in_bytes, digits_div ((a * 256 + b) * 256 + c) {m = 256} {r = d} ld) (digits_mod (a * 256 + b) {m = 256} {r = c} lc)

  fourth : w % 256 ≡ d
  fourth = rw in_bytes (digits_mod ((a * 256 + b) * 256 + c) {m = 256} {r = d} ld)

  -- THEOREM: the entry whose four bytes make a number is the entry of those bytes
  pub word_bytes : entry_from n w ≡ entry_of n a b c d
  unfolding entry_from
  word_bytes = rw (first, second, third, fourth)

-- ---- Int and Top are one number each
digits : (w : ℕ) → w ≡ w / 16777216 * 16777216 + (w / 65536 % 256 * 65536 + (w / 256 % 256 * 256 + w % 256))
digits w =
    omega (
      arith,
      div-add-mod' w 16777216,
      mod-mul w {m = 256} {c = 65536} (omega arith) (omega arith),
      mod-mul w {m = 256} {c = 256} (omega arith) (omega arith),
    )

-- of kind k, and zeros
abbrev plain : ℕ → ℕ → Bool
plain w k = eqb (w / 16777216) k && zeros (w / 65536 % 256) (w / 256 % 256) (w % 256)

plain-is : (w k : ℕ) → plain w k ≡ true → w ≡ k * 16777216
unfolding zeros
plain-is w k q = let c = eqb (w / 65536 % 256) 0 in let d = eqb (w / 256 % 256) 0 in let z = and-snd (eqb (w / 16777216) k) _ q in let y = and-fst (c && d) _ z in
    omega (
      arith,
      digits w,
      eqb-true (w / 16777216) k (and-fst (eqb (w / 16777216) k) _ q),
      eqb-true (w / 65536 % 256) 0 (and-fst c d y),
      eqb-true (w / 256 % 256) 0 (and-snd c d y),
      eqb-true (w % 256) 0 (and-snd (c && d) _ z),
    )

plain_word : (w k : ℕ) → plain (k * 16777216) k ≡ true → eqb w (k * 16777216) ≡ plain w k
plain_word w k h = go (plain w k) refl
  where
    go : (t : Bool) → plain w k ≡ t → eqb w (k * 16777216) ≡ t
    go true q = eq-eqb w (k * 16777216) (plain-is w k q)
    go false q = ne_eqb w (k * 16777216) (λ e. never (rw e h) q)

-- THEOREM: Int, Top and what stands below the depth in use are one number each
pub int_word : (n w : ℕ) → eqb w 16777216 ≡ is_int (entry_from n w)
unfolding entry_from zeros
int_word n w = plain_word w 1 refl ∙ int-bytes n _ _ _ _

pub top-word : (n w : ℕ) → eqb w 33554432 ≡ is_top (entry_from n w)
unfolding entry_from zeros
top-word n w = plain_word w 2 refl ∙ top-bytes n _ _ _ _

pub blank-word : (n w : ℕ) → eqb w 0 ≡ is_blank (entry_from n w)
unfolding entry_from zeros
blank-word n w = plain_word w 0 refl ∙ blank-bytes n _ _ _ _

-- THEOREM: a reference is told by its kind and its pair, and is that of its bytes
pub reference-word : (n w : ℕ) → (eqb (w / 16777216) 3 && pair_ok n (w / 65536 % 256) (w / 256 % 256) (w % 256)) ≡ is_reference (entry_from n w)
unfolding entry_from
reference-word n w = reference-bytes n _ _ _ _

-- THEOREM: .. and one that may be null by its kind, its class and zeros
pub nullable-word : (n w : ℕ) → (eqb (w / 16777216) 4 && nullable_ok n (w / 65536 % 256) (w / 256 % 256) (w % 256)) ≡ is_nullable (entry_from n w)
unfolding entry_from
nullable-word n w = nullable-bytes n _ _ _ _

pub nullable-class : (n w : ℕ) → is_nullable (entry_from n w) ≡ true → w / 65536 % 256 ≡ class_of (entry_from n w)
unfolding entry_from
nullable-class n w h = rw (nullable-is n _ _ _ _ h)

module _ (n w : ℕ) (h : is_reference (entry_from n w) ≡ true) where
  word-is : entry_from n w ≡ Ref (w / 65536 % 256) (w / 256 % 256) (w % 256)
  unfolding entry_from
  word-is = reference-is n _ _ _ _ h

  pub word-class : w / 65536 % 256 ≡ class_of (entry_from n w)
  word-class = rw word-is

  pub word-dip : w / 256 % 256 ≡ dip_of (entry_from n w)
  word-dip = rw word-is

  pub word_end : w % 256 ≡ end_of (entry_from n w)
  word_end = rw word-is

-- equal words fit
pub same_word : (n w v : ℕ) → w ≡ v → 0 ≡ compare (entry_from n w) (want (entry_from n v))
same_word n w v e = rw e (sym (fits-itself (entry_from n v)))

-- the class of a reference, null or not
pub either-class : (n w : ℕ) → (is_reference (entry_from n w) || is_nullable (entry_from n w)) ≡ true → w / 65536 % 256 ≡ class_of (entry_from n w)
either-class n w h = go (is_reference (entry_from n w)) refl
  where
    go : (t : Bool) → is_reference (entry_from n w) ≡ t → w / 65536 % 256 ≡ class_of (entry_from n w)
    go true q = word-class n w q
    go false q = nullable-class n w (rw q at h)

-- references of one class: each takes the other
pub alike-takes : (n w v : ℕ) → is_reference (entry_from n w) ≡ true → is_reference (entry_from n v) ≡ true → eqb (w / 65536 % 256) (v / 65536 % 256) ≡ true → takes (entry_from n v) (entry_from n w) ≡ true
unfolding takes
alike-takes n w v p q e = rw (word-is n w p, word-is n v q) e
