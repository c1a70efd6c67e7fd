-- Laws of bits, by the kit's laws of digits; what is said of single masks is checked for all 32.
use mathlib.Core.Path.{◌≡◌, refl, sym, ◌∙◌, ap, ap₂}
use mathlib.Core.Logic.{◌⊎◌, inl, inr, ◌≢◌}
use mathlib.Core.Bool.{Bool, true, false, cond, not, ◌&&◌, ◌||◌, false≢true, true≢false}
use Prim.Native.Nat.{ℕ, zero, suc, ◌+◌, ◌-◌, ◌*◌, ◌/◌, ◌%◌, ◌^◌, ◌≤◌, ◌<◌, min, max}
use native.Mathlib.Nat.{mod-lt, mod-eq_of_lt, div-eq_of_lt, add_comm}
use native.Mathlib.Omega.{arith}
use native.Mathlib.Decide.{ℕ_discrete}
use lib.Arith.{digits_mod, lt-one}
use lib.Pow.{pow_pos, mod-pow-add}
use lib.Bits.{bit_and, bit_or, and_step, or_step, and_shr, or_shr, and_le_l}
use lib.Count.{ones, ones_in, ones_cat}
use lib.Dec.{ltb, eqb}
use borrow.Author.Tests.{lt-ltb, le-ltb, eqb-true, eq-eqb, ne_eqb, not-true}
use Rattle.ground.specs.Bounded.{all_below, count_below}
use Rattle.ground.proofs.Bools.{and-false, and-true, or-true, or-false, never}
use Rattle.ground.proofs.Bounded.{all-elim, all-intro, all_same, count_under}
use Rattle.held.specs.Word.{bit, set_bit, clear_bit, marked, bits_set, apart}

-- ---- single bits, checked one by one
same : Bool → Bool → Bool
same true b = b
same false b = not b

same-eq : (a b : Bool) → same a b ≡ true → a ≡ b
unfolding same
same-eq true true e = refl
same-eq true false e = sym e
same-eq false true e = e
same-eq false false e = refl

every-shift : all_below 32 (λ i. eqb (1 * 2 ^ i % 4294967296) (2 ^ i)) ≡ true
unfolding all_below
every-shift = refl

every-power : all_below 32 (λ i. all_below 32 (λ j. same (bit (2 ^ i) j) (eqb i j))) ≡ true
unfolding all_below bit same
every-power = refl

every-other : all_below 32 (λ i. all_below 32 (λ j. same (bit (4294967295 - 2 ^ i) j) (not (eqb i j)))) ≡ true
unfolding all_below bit same
every-other = refl

-- 1 << i
shifted : (i : ℕ) → i < 32 → 1 * 2 ^ i % 4294967296 ≡ 2 ^ i
shifted i l = eqb-true _ _ (all-elim (λ i. eqb (1 * 2 ^ i % 4294967296) (2 ^ i)) 32 every-shift i l)

power-bit : (i j : ℕ) → i < 32 → j < 32 → bit (2 ^ i) j ≡ eqb i j
power-bit i j l k =
    same-eq _ _ (all-elim (λ j. same (bit (2 ^ i) j) (eqb i j)) 32 (all-elim (λ i. all_below 32 (λ j. same (bit (2 ^ i) j) (eqb i j))) 32 every-power i l) j k)

other-bit : (i j : ℕ) → i < 32 → j < 32 → bit (4294967295 - 2 ^ i) j ≡ not (eqb i j)
other-bit i j l k =
    same-eq _ _ (all-elim (λ j. same (bit (4294967295 - 2 ^ i) j) (not (eqb i j))) 32 (all-elim (λ i. all_below 32 (λ j. same (bit (4294967295 - 2 ^ i) j) (not (eqb i j)))) 32 every-other i l) j k)

-- ---- a digit is 0 or 1
digit : (n : ℕ) → (n % 2 ≡ 0) ⊎ (n % 2 ≡ 1)
digit n = go (n % 2) (mod-lt n (omega arith))
  where
    go : (d : ℕ) → d < 2 → (d ≡ 0) ⊎ (d ≡ 1)
    go zero l = inl refl
    go (suc zero) l = inr refl
    go (suc (suc d)) l = absurd (omega arith)

-- the lowest digit of both, and of either
and-digit : (a b : ℕ) → eqb (bit_and a b % 2) 1 ≡ (eqb (a % 2) 1 && eqb (b % 2) 1)
and-digit a b = go (digit a) (digit b)
  where
    low : (d : ℕ) → d < 2 → min (a % 2) (b % 2) ≡ d → bit_and a b % 2 ≡ d
    low d l q = ap (λ (x : ℕ). x % 2) (and_step a b ∙ ap (λ (x : ℕ). bit_and (a / 2) (b / 2) * 2 + x) q) ∙ digits_mod (bit_and (a / 2) (b / 2)) l

    go : (a % 2 ≡ 0) ⊎ (a % 2 ≡ 1) → (b % 2 ≡ 0) ⊎ (b % 2 ≡ 1) → eqb (bit_and a b % 2) 1 ≡ (eqb (a % 2) 1 && eqb (b % 2) 1)
    go (inl p) (inl q) = rw (low 0 (omega arith) (rw (p, q)), p)
    go (inl p) (inr q) = rw (low 0 (omega arith) (rw (p, q)), p)
    go (inr p) (inl q) = rw (low 0 (omega arith) (rw (p, q)), p, q)
    go (inr p) (inr q) = rw (low 1 (omega arith) (rw (p, q)), p, q)

or-digit : (a b : ℕ) → eqb (bit_or a b % 2) 1 ≡ (eqb (a % 2) 1 || eqb (b % 2) 1)
or-digit a b = go (digit a) (digit b)
  where
    low : (d : ℕ) → d < 2 → max (a % 2) (b % 2) ≡ d → bit_or a b % 2 ≡ d
    low d l q = ap (λ (x : ℕ). x % 2) (or_step a b ∙ ap (λ (x : ℕ). bit_or (a / 2) (b / 2) * 2 + x) q) ∙ digits_mod (bit_or (a / 2) (b / 2)) l

    go : (a % 2 ≡ 0) ⊎ (a % 2 ≡ 1) → (b % 2 ≡ 0) ⊎ (b % 2 ≡ 1) → eqb (bit_or a b % 2) 1 ≡ (eqb (a % 2) 1 || eqb (b % 2) 1)
    go (inl p) (inl q) = rw (low 0 (omega arith) (rw (p, q)), p, q)
    go (inl p) (inr q) = rw (low 1 (omega arith) (rw (p, q)), p, q)
    go (inr p) (inl q) = rw (low 1 (omega arith) (rw (p, q)), p)
    go (inr p) (inr q) = rw (low 1 (omega arith) (rw (p, q)), p)

and-bit : (a b j : ℕ) → bit (bit_and a b) j ≡ (bit a j && bit b j)
unfolding bit
and-bit a b j = rw (and_shr a b j) (and-digit (a / 2 ^ j) (b / 2 ^ j))

pub or-bit : (a b j : ℕ) → bit (bit_or a b) j ≡ (bit a j || bit b j)
unfolding bit
or-bit a b j = rw (or_shr a b j) (or-digit (a / 2 ^ j) (b / 2 ^ j))

-- ---- the two changes
-- THEOREM: bit i is set, the others are as they were
set-bit : (w i j : ℕ) → i < 32 → j < 32 → bit (set_bit w i) j ≡ (bit w j || eqb i j)
unfolding set_bit
set-bit w i j l k = rw (lt-ltb i 32 l) (or-bit w (2 ^ i) j ∙ ap (λ (x : Bool). bit w j || x) (power-bit i j l k))

-- THEOREM: bit i is cleared, the others are as they were
clear-bit : (w i j : ℕ) → i < 32 → j < 32 → bit (clear_bit w i) j ≡ (bit w j && not (eqb i j))
unfolding clear_bit
clear-bit w i j l k = rw (lt-ltb i 32 l) (and-bit w (4294967295 - 2 ^ i) j ∙ ap (λ (x : Bool). bit w j && x) (other-bit i j l k))

-- ---- how many are set
suc_one : (k : ℕ) → suc k ≡ 1 + k
suc_one k = omega arith

same-digit : (w v k : ℕ) → bit w k ≡ bit v k → w / 2 ^ k % 2 ≡ v / 2 ^ k % 2
unfolding bit
same-digit w v k e = go (digit (w / 2 ^ k)) (digit (v / 2 ^ k))
  where
    go : (w / 2 ^ k % 2 ≡ 0) ⊎ (w / 2 ^ k % 2 ≡ 1) → (v / 2 ^ k % 2 ≡ 0) ⊎ (v / 2 ^ k % 2 ≡ 1) → w / 2 ^ k % 2 ≡ v / 2 ^ k % 2
    go (inl p) (inl q) = p ∙ sym q
    go (inl p) (inr q) = absurd (false≢true (rw (p, q) at e))
    go (inr p) (inl q) = absurd (true≢false (rw (p, q) at e))
    go (inr p) (inr q) = p ∙ sym q

one-digit : (d : ℕ) → (d ≡ 0) ⊎ (d ≡ 1) → ones d ≡ cond (eqb d 1) 1 0
unfolding ones ones_in
one-digit d (inl q) = rw q
one-digit d (inr q) = rw q

-- one bit more
more-bits : (w k : ℕ) → w % 2 ^ (1 + k) ≡ w / 2 ^ k % 2 * 2 ^ k + w % 2 ^ k
more-bits w k = mod-pow-add w 1 k

-- of the k lowest bits
ones_below : (w k : ℕ) → ones (w % 2 ^ k) ≡ count_below k (bit w)
unfolding count_below bit
ones_below w zero = ap ones (lt-one (mod-lt w (omega arith))) ∙ one-digit 0 (inl refl)
ones_below w (suc k) =
    ap (λ (m : ℕ). ones (w % 2 ^ m)) (suc_one k)
    ∙ ap ones (more-bits w k)
    ∙ ones_cat k (w / 2 ^ k % 2) (w % 2 ^ k) (mod-lt w (pow_pos k))
    ∙ ap₂ (λ (x y : ℕ). x + y) (one-digit (w / 2 ^ k % 2) (digit (w / 2 ^ k))) (ones_below w k)
    ∙ add_comm (cond (eqb (w / 2 ^ k % 2) 1) 1 0) (count_below k (bit w))

-- THEOREM: `count_ones` is the number of bits that are set
pub ones-bits : (w : ℕ) → w < 4294967296 → ones w ≡ bits_set w
unfolding bits_set
ones-bits w l = ap ones (sym (mod-eq_of_lt l)) ∙ ones_below w 32

pub bits-32 : (w : ℕ) → bits_set w ≤ 32
unfolding bits_set
bits-32 w = count_under (bit w) 32

-- ---- a word is its bits
bits_below : (w v k : ℕ) → ((j : ℕ) → j < k → bit w j ≡ bit v j) → w % 2 ^ k ≡ v % 2 ^ k
bits_below w v zero h = lt-one (mod-lt w (omega arith)) ∙ sym (lt-one (mod-lt v (omega arith)))
bits_below w v (suc k) h =
    ap (λ (m : ℕ). w % 2 ^ m) (suc_one k)
    ∙ more-bits w k
    ∙ ap₂ (λ (x y : ℕ). x * 2 ^ k + y) (same-digit w v k (h k (omega arith))) (bits_below w v k (λ j l. h j (omega arith)))
    ∙ sym (ap (λ (m : ℕ). v % 2 ^ m) (suc_one k) ∙ more-bits v k)

-- THEOREM: two words with the same bits are equal
pub same_word : (w v : ℕ) → w < 4294967296 → v < 4294967296 → ((j : ℕ) → j < 32 → bit w j ≡ bit v j) → w ≡ v
same_word w v l k h = sym (mod-eq_of_lt l) ∙ bits_below w v 32 h ∙ mod-eq_of_lt k

-- the word 0 has none
pub no_bits : (i : ℕ) → bit 0 i ≡ false
unfolding bit
no_bits i = rw (div-eq_of_lt (pow_pos i))

-- ---- what the code computes
-- w | (1 << i)
pub set_is : (w i : ℕ) → i < 32 → bit_or w (1 * 2 ^ i % 4294967296) ≡ set_bit w i
unfolding set_bit
set_is w i l = rw (shifted i l, lt-ltb i 32 l)

pub set_past : (w i : ℕ) → 32 ≤ i → w ≡ set_bit w i
unfolding set_bit
set_past w i l = rw (le-ltb i 32 l)

-- w & !(1 << i)
pub clear-is : (w i : ℕ) → i < 32 → bit_and w (4294967295 - 1 * 2 ^ i % 4294967296) ≡ clear_bit w i
unfolding clear_bit
clear-is w i l = rw (shifted i l, lt-ltb i 32 l)

pub clear-past : (w i : ℕ) → 32 ≤ i → w ≡ clear_bit w i
unfolding clear_bit
clear-past w i l = rw (le-ltb i 32 l)

-- ---- a word that is marked by a count
pub above_zero : (n : ℕ) → not (eqb n 0) ≡ ltb 0 n
above_zero zero = refl
above_zero (suc n) = rw (ne_eqb (suc n) 0 (λ q. omega arith), lt-ltb 0 (suc n) (omega arith))

-- THEOREM: bit i is set exactly when the count is above zero, the others are as they were
pub marked-same : (w i n : ℕ) → i < 32 → bit (marked w i n) i ≡ ltb 0 n
unfolding marked
marked-same w i n l = go (eqb n 0) ∙ above_zero n
  where
    go : (z : Bool) → bit (cond z (clear_bit w i) (set_bit w i)) i ≡ not z
    go true = clear-bit w i i l l ∙ rw (eq-eqb i i refl) (and-false (bit w i))
    go false = set-bit w i i l l ∙ rw (eq-eqb i i refl) (or-true (bit w i))

pub marked_other : (w i n j : ℕ) → i < 32 → j < 32 → i ≢ j → bit (marked w i n) j ≡ bit w j
unfolding marked
marked_other w i n j l k q = go (eqb n 0)
  where
    go : (z : Bool) → bit (cond z (clear_bit w i) (set_bit w i)) j ≡ bit w j
    go true = clear-bit w i j l k ∙ rw (ne_eqb i j q) (and-true (bit w j))
    go false = set-bit w i j l k ∙ rw (ne_eqb i j q) (or-false (bit w j))

pub marked-past : (w i n : ℕ) → 32 ≤ i → marked w i n ≡ w
unfolding marked
marked-past w i n l = go (eqb n 0)
  where
    go : (z : Bool) → cond z (clear_bit w i) (set_bit w i) ≡ w
    go true = sym (clear-past w i l)
    go false = sym (set_past w i l)

-- ---- two words apart
-- a word is 0 exactly when none of its bits is set
zero_word : (w : ℕ) → w < 4294967296 → all_below 32 (λ o. not (bit w o)) ≡ eqb w 0
zero_word w l = go (ℕ_discrete w 0) (all_below 32 (λ o. not (bit w o))) refl
  where
    go : Dec (w ≡ 0) → (t : Bool) → all_below 32 (λ o. not (bit w o)) ≡ t → t ≡ eqb w 0
    go (yes q) true e = sym (eq-eqb w 0 q)
    go (yes q) false e = never (all-intro (λ o. not (bit w o)) 32 (λ o k. rw (q, no_bits o))) e
    go (no q) true e = absurd (q (same_word w 0 l (omega arith) (λ o k. not-true _ (all-elim (λ o. not (bit w o)) 32 e o k) ∙ sym (no_bits o))))
    go (no q) false e = sym (ne_eqb w 0 q)

-- w & v == 0
pub apart-is : (w v : ℕ) → w < 4294967296 → eqb (bit_and w v) 0 ≡ apart w v
unfolding apart
apart-is w v l =
    sym (zero_word (bit_and w v) (omega (arith, and_le_l w v)))
    ∙ all_same (λ o. not (bit (bit_and w v) o)) (λ o. not (bit w o && bit v o)) 32 (λ o k. ap not (and-bit w v o))
