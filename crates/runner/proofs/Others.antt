-- "Another thread holds it", by the held words: where words and counts agree and no object has two holders, it is that another thread's count is above zero.
use mathlib.Core.List.{List}
use mathlib.Core.Path.{◌≡◌, refl, sym, ap, ◌∙◌}
use mathlib.Core.Logic.{◌≢◌}
use mathlib.Core.Bool.{Bool, true, false, not, ◌&&◌, ◌||◌}
use Prim.Native.Nat.{ℕ, ◌/◌, ◌%◌, ◌^◌, ◌<◌}
use native.Mathlib.Nat.{mod-lt}
use native.Mathlib.Omega.{arith}
use native.Mathlib.Decide.{ℕ_discrete}
use lib.Bits.{bit_or}
use lib.Dec.{ltb, eqb}
use borrow.Author.Tests.{eqb-true, eqb-false, eq-eqb, ne_eqb, ltb-true, ltb-false, not-true, not-false}
use Rattle.ground.specs.Bytes.{at}
use Rattle.ground.specs.Bounded.{all_below}
use Rattle.ground.proofs.Bools.{never}
use Rattle.ground.proofs.Bounded.{all-intro, all-elim, all-some, all-stop}
use Rattle.held.specs.Word.{bit}
use Rattle.held.proofs.Word.{or-bit}
use Rattle.state.specs.State.{count_of, free_of, others_free}
use Rattle.runner.specs.Locks.{all_held, held_by_other}

-- ---- a bit of all words
one_more : (n x y : Bool) → x ≡ not n → (x || y) ≡ not (n && not y)
one_more true x true e = rw e
one_more true x false e = rw e
one_more false x y e = rw e

module _ (held : List ℕ) (o : ℕ) where
  abbrev unset : ℕ → Bool
  unset j = not (bit (at held j) o)

  first : (x : Bool) → x ≡ not (true && not x)
  first true = refl
  first false = refl

  -- it is set exactly when it is set in one of them
  all-bit : bit (all_held held) o ≡ not (all_below 8 (λ j. not (bit (at held j) o)))
  unfolding all_below
  all-bit =
      let w₁ : ℕ = bit_or (at held 0) (at held 1) in
      let w₂ : ℕ = bit_or w₁ (at held 2) in
      let w₃ : ℕ = bit_or w₂ (at held 3) in
      let w₄ : ℕ = bit_or w₃ (at held 4) in
      let w₅ : ℕ = bit_or w₄ (at held 5) in
      let w₆ : ℕ = bit_or w₅ (at held 6) in
      or-bit w₆ (at held 7) o ∙ one_more (all_below 7 unset) (bit w₆ o) (bit (at held 7) o)
      (or-bit w₅ (at held 6) o ∙ one_more (all_below 6 unset) (bit w₅ o) (bit (at held 6) o)
      (or-bit w₄ (at held 5) o ∙ one_more (all_below 5 unset) (bit w₄ o) (bit (at held 5) o)
      (or-bit w₃ (at held 4) o ∙ one_more (all_below 4 unset) (bit w₃ o) (bit (at held 4) o)
      (or-bit w₂ (at held 3) o ∙ one_more (all_below 3 unset) (bit w₂ o) (bit (at held 3) o)
      (or-bit w₁ (at held 2) o ∙ one_more (all_below 2 unset) (bit w₁ o) (bit (at held 2) o)
      (or-bit (at held 0) (at held 1) o ∙ one_more (all_below 1 unset) (bit (at held 0) o) (bit (at held 1) o) (first (bit (at held 0) o))))))))

-- ---- two digits
digit-one : (w o : ℕ) → bit w o ≡ true → w / 2 ^ o % 2 ≡ 1
unfolding bit
digit-one w o e = eqb-true _ 1 e

digit-zero : (w o : ℕ) → bit w o ≡ false → w / 2 ^ o % 2 ≡ 0
unfolding bit
digit-zero w o e = below (w / 2 ^ o % 2) (mod-lt (w / 2 ^ o) (omega arith)) (eqb-false _ 1 e)
  where
    below : (d : ℕ) → d < 2 → d ≢ 1 → d ≡ 0
    below d l n = omega arith

-- THEOREM
module _ (held counts : List ℕ) (i o : ℕ) (li : i < 8)
    (worded : (j : ℕ) → j < 8 → bit (at held j) o ≡ ltb 0 (count_of counts j o))
    (one_holder : (j : ℕ) → j < 8 → j ≢ i → 0 < count_of counts i o → count_of counts j o ≡ 0) where
  none : (j : ℕ) → j < 8 → bit (at held j) o ≡ false → count_of counts j o ≡ 0
  none j l e = omega (arith, ltb-false 0 (count_of counts j o) (sym (worded j l) ∙ e))

  some : (j : ℕ) → j < 8 → bit (at held j) o ≡ true → 0 < count_of counts j o
  some j l e = ltb-true 0 (count_of counts j o) (sym (worded j l) ∙ e)

  free-by : ((j : ℕ) → j < 8 → j ≢ i → count_of counts j o ≡ 0) → others_free counts i o ≡ true
  unfolding others_free
  free-by h = all-intro (free_of counts i o) 8 (λ j l. go j l (ℕ_discrete j i))
    where
      go : (j : ℕ) → j < 8 → Dec (j ≡ i) → free_of counts i o j ≡ true
      go j l (yes q) = rw (eq-eqb j i q)
      go j l (no q) = rw (ne_eqb j i q, eq-eqb (count_of counts j o) 0 (h j l q))

  taken-by : (j : ℕ) → j < 8 → j ≢ i → 0 < count_of counts j o → others_free counts i o ≡ false
  unfolding others_free
  taken-by j l n k = all-stop (free_of counts i o) 8 j l (rw (ne_eqb j i n, ne_eqb (count_of counts j o) 0 (omega arith)))

  pub held-by-other : held_by_other held i o ≡ not (others_free counts i o)
  unfolding held_by_other
  held-by-other = go (bit (at held i) o) refl (all_below 8 (λ j. not (bit (at held j) o))) refl
    where
      apart : (j : ℕ) → bit (at held j) o ≡ true → bit (at held i) o ≡ false → j ≢ i
      apart j e f q = never e (rw q f)

      go : (t : Bool) → bit (at held i) o ≡ t → (n : Bool) → all_below 8 (λ j. not (bit (at held j) o)) ≡ n
          → not (eqb (all_held held / 2 ^ o % 2) (at held i / 2 ^ o % 2)) ≡ not (others_free counts i o)
      go true e true f = never e (not-true _ (all-elim (λ j. not (bit (at held j) o)) 8 f i li))
      go true e false f =
          rw (digit-one (all_held held) o (all-bit held o ∙ ap not f), digit-one (at held i) o e, free-by (λ j l n. one_holder j l n (some i li e)))
      go false e true f =
          rw (
            digit-zero (all_held held) o (all-bit held o ∙ ap not f),
            digit-zero (at held i) o e,
            free-by (λ j l n. none j l (not-true _ (all-elim (λ j. not (bit (at held j) o)) 8 f j l))),
          )
      go false e false f =
          let s = all-some (λ j. not (bit (at held j) o)) 8 f in
          let h : bit (at held s.0) o ≡ true = not-false _ s.2 in
          rw (
            digit-one (all_held held) o (all-bit held o ∙ ap not f),
            digit-zero (at held i) o e,
            taken-by s.0 s.1 (apart s.0 h e) (some s.0 s.1 h),
          )
