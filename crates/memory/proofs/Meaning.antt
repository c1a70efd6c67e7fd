-- What a word stands for.
use mathlib.Core.Path.{◌≡◌, refl, sym, ◌∙◌}
use mathlib.Core.Bool.{true, not}
use Prim.Native.Nat.{ℕ, suc, ◌+◌, ◌-◌, ◌<◌, ◌≤◌}
use lib.Dec.{leb, eqb}
use lib.IntN.{negsuc, suc_ℤ, pos-+ℤ-pos, +ℤ_one}
use native.Mathlib.Omega.{arith}
use native.Mathlib.Decide.{dec_lt}
use borrow.Author.Tests.{lt-ltb, le-ltb, le-leb, lt-leb, ne_eqb}
use Rattle.ground.proofs.Bools.{never}
use Rattle.values.specs.Values.{zero_slot, int_slot, ref_slot, null_slot, number_of, is_pos, inc_of, is_int, is_null, is_ref, object_of, inc_slot, jumps}
use Rattle.memory.specs.Words.{object_in, inc_word, slot_of}

pub word-int : (w : ℕ) → w < 4294967296 → slot_of w ≡ int_slot w
unfolding slot_of
word-int w l = rw (lt-ltb w 4294967296 l)

pub word-ref : (w : ℕ) → 4294967296 ≤ w → w < 4294967552 → slot_of w ≡ ref_slot (w - 4294967296)
unfolding slot_of
word-ref w l k = rw (le-ltb w 4294967296 l, lt-ltb w 4294967552 k)

pub word-null : (w : ℕ) → 4294967552 ≤ w → slot_of w ≡ null_slot
unfolding slot_of
word-null w l = rw (le-ltb w 4294967296 (omega arith), le-ltb w 4294967552 l)

pub word-zero : slot_of 0 ≡ zero_slot
unfolding slot_of
word-zero = refl

-- the word of an object
pub word-object : (o : ℕ) → o < 256 → slot_of (4294967296 + o) ≡ ref_slot o
word-object o l = let e : 4294967296 + o - 4294967296 ≡ o = omega arith in rw (word-ref (4294967296 + o) (omega arith) (omega arith), e)

-- which word stands for what
pub int-low : (w : ℕ) → is_int (slot_of w) ≡ true → w < 4294967296
int-low w e = go (dec_lt w 4294967296) (dec_lt w 4294967552)
  where
    go : Dec (w < 4294967296) → Dec (w < 4294967552) → w < 4294967296
    go (yes p) q = p
    go (no p) (yes q) = never e (rw (word-ref w (omega arith) q))
    go (no p) (no q) = never e (rw (word-null w (omega arith)))

pub ref-object : (w : ℕ) → is_ref (slot_of w) ≡ true → object_in w ≡ object_of (slot_of w)
ref-object w e = go (dec_lt w 4294967296) (dec_lt w 4294967552)
  where
    go : Dec (w < 4294967296) → Dec (w < 4294967552) → object_in w ≡ object_of (slot_of w)
    go (yes p) q = never e (rw (word-int w p))
    go (no p) (yes q) = rw (word-ref w (omega arith) q) (omega arith)
    go (no p) (no q) = never e (rw (word-null w (omega arith)))

pub null-high : (w : ℕ) → is_null (slot_of w) ≡ leb 4294967552 w
null-high w = go (dec_lt w 4294967296) (dec_lt w 4294967552)
  where
    go : Dec (w < 4294967296) → Dec (w < 4294967552) → is_null (slot_of w) ≡ leb 4294967552 w
    go (yes p) q = rw (word-int w p, lt-leb 4294967552 w (omega arith))
    go (no p) (yes q) = rw (word-ref w (omega arith) q, lt-leb 4294967552 w q)
    go (no p) (no q) = rw (word-null w (omega arith), le-leb 4294967552 w (omega arith))

-- ---- inc wraps
-- one more, from below the greatest integer, at it, and above
inc-number : (w : ℕ) → w < 4294967295 → number_of (w + 1) ≡ inc_of (number_of w)
inc-number w l = go (dec_lt w 2147483647) (dec_lt w 2147483648)
  where
    down : (k : ℕ) → negsuc k ≡ suc_ℤ (negsuc (suc k))
    down k = refl

    go : Dec (w < 2147483647) → Dec (w < 2147483648) → number_of (w + 1) ≡ inc_of (number_of w)
    go (yes p) q =
        rw (lt-ltb (w + 1) 2147483648 (omega arith), lt-ltb w 2147483648 (omega arith), ne_eqb w 2147483647 (omega arith)) (sym (pos-+ℤ-pos w 1))
    go (no p) (yes q) = let e : w ≡ 2147483647 = omega arith in rw e
    go (no p) (no q) =
        let e : 4294967295 - w ≡ suc (4294967295 - (w + 1)) = omega arith in
        rw (le-ltb (w + 1) 2147483648 (omega arith), le-ltb w 2147483648 (omega arith), e) (down (4294967295 - (w + 1)) ∙ sym (+ℤ_one (negsuc (suc (4294967295 - (w + 1))))))

inc-last : slot_of 0 ≡ inc_slot (slot_of 4294967295)
unfolding slot_of
inc-last = refl

pub inc-word : (w : ℕ) → w < 4294967296 → slot_of (inc_word w) ≡ inc_slot (slot_of w)
inc-word w l = go (dec_lt w 4294967295)
  where
    go : Dec (w < 4294967295) → slot_of (inc_word w) ≡ inc_slot (slot_of w)
    go (yes p) =
        let e : inc_word w ≡ w + 1 = omega arith in
        rw (e, word-int (w + 1) (omega arith), word-int w (omega arith), inc-number w p)
    go (no p) =
        let e : w ≡ 4294967295 = omega arith in
        rw e inc-last

-- ---- `if` jumps on a word that isn't 0
pub jumps-word : (w : ℕ) → w < 4294967296 → jumps (slot_of w) ≡ not (eqb w 0)
jumps-word w l = rw (word-int w l) (go (dec_lt w 2147483648))
  where
    go : Dec (w < 2147483648) → not (is_pos 0 (number_of w)) ≡ not (eqb w 0)
    go (yes p) = rw (lt-ltb w 2147483648 p)
    go (no p) = rw (le-ltb w 2147483648 (omega arith), ne_eqb w 0 (omega arith))
