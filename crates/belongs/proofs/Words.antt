-- The held words in the test of 18: one word made anew from its counts, and two holders asked of the words.
use mathlib.Core.Path.{◌≡◌, refl, sym, ◌∙◌, ap}
use mathlib.Core.Bool.{Bool, true, false, cond, ◌&&◌, ◌||◌, not}
use mathlib.Core.List.{List}
use Prim.Native.Nat.{ℕ, ◌+◌, ◌<◌, ◌≤◌}
use lib.Bits.{bit_or}
use lib.Dec.{ltb, leb, eqb}
use native.Mathlib.Omega.{arith}
use native.Mathlib.Decide.{ℕ_discrete, dec_lt}
use borrow.Author.Tests.{eq-eqb, ne_eqb, lt-leb, le-leb, not-true, not-false}
use Rattle.ground.specs.Bounded.{all_below, count_below}
use Rattle.ground.proofs.Bools.{and-fst, and-snd, and-false, never}
use Rattle.ground.proofs.Bounded.{all-elim, all-intro, all-stop, all-some, count-more, count_none, count_same, count-up}
use Rattle.held.specs.Word.{bit, marked, apart}
use Rattle.held.proofs.Word.{above_zero, marked-same, marked_other, same_word, or-bit}
use Rattle.state.specs.declared.State.{State}
use Rattle.state.specs.State.{thread_at, count_of, word_of}
use Rattle.belongs.specs.Belongs.{thread_counts_ok_at, counts_ok, word_agrees, bit_agrees_at, word_agrees_at, words_agree, Worded, holds_at, sole_holder, sole_holders, has_bit, bit_alone, bits_apart}
use Rattle.belongs.proofs.Belongs.{Counted, agrees-elim, agrees-intro}

-- ---- one word, made anew
-- the bits below o are as the counts of thread i have them
abbrev pub Made : List ℕ → ℕ → ℕ → ℕ → Type 0
Made counts i made o = (j : ℕ) → j < o → bit made j ≡ ltb 0 (count_of counts i j)

pub made_more : (counts : List ℕ) (i made o : ℕ) → o < 32 → Made counts i made o → Made counts i (marked made o (count_of counts i o)) (o + 1)
made_more counts i made o l h j k = go (ℕ_discrete o j)
  where
    go : Dec (o ≡ j) → bit (marked made o (count_of counts i o)) j ≡ ltb 0 (count_of counts i j)
    go (yes q) = rw (← q) (marked-same made o (count_of counts i o) l)
    go (no q) = marked_other made o (count_of counts i o) j l (omega arith) q ∙ h j (omega arith)

pub made-agrees : (counts : List ℕ) (i w made : ℕ) → w < 4294967296 → made < 4294967296 → Made counts i made 32 → eqb made w ≡ word_agrees counts w i
unfolding word_agrees
made-agrees counts i w made l k h = go (ℕ_discrete made w) (word_agrees counts w i) refl
  where
    go : Dec (made ≡ w) → (t : Bool) → word_agrees counts w i ≡ t → eqb made w ≡ t
    go (yes q) true e = eq-eqb made w q
    go (yes q) false e = never (all-intro (bit_agrees_at counts w i) 32 (λ o m. agrees-intro w o (count_of counts i o) (rw (← q) (h o m)))) e
    go (no q) true e = absurd (q (same_word made w k l (λ o m. h o m ∙ sym (agrees-elim w o (count_of counts i o) (all-elim (bit_agrees_at counts w i) 32 e o m)))))
    go (no q) false e = ne_eqb made w q

-- a thread whose counts or word are refused
pub thread-stop : (s : State) (before : Bool) (i : ℕ) → i < 8 → (thread_counts_ok_at s i && word_agrees_at s i) ≡ false → (before && counts_ok s && words_agree s) ≡ false
unfolding counts_ok words_agree
thread-stop s before i l e = go (thread_counts_ok_at s i) refl
  where
    go : (t : Bool) → thread_counts_ok_at s i ≡ t → (before && all_below 8 (thread_counts_ok_at s) && all_below 8 (word_agrees_at s)) ≡ false
    go false q = rw (all-stop (thread_counts_ok_at s) 8 i l q, and-false before)
    go true q = rw (all-stop (word_agrees_at s) 8 i l (rw q at e)) (and-false (before && all_below 8 (thread_counts_ok_at s)))

-- ---- two holders
module _ (held : List ℕ) where
  -- what the first i words have taken, each bit once
  abbrev pub Taken : ℕ → ℕ → Type 0
  Taken taken i = (o : ℕ) → o < 32 → count_below i (has_bit held o) ≡ cond (bit taken o) 1 0

  pub taken_more : (taken i : ℕ) → apart taken (word_of held i) ≡ true → Taken taken i → Taken (bit_or taken (word_of held i)) (i + 1)
  unfolding apart
  taken_more taken i z h o l =
      count-more (has_bit held o) i
      ∙ ap (λ (n : ℕ). n + cond (has_bit held o i) 1 0) (h o l)
      ∙ both (bit taken o) (has_bit held o i) (not-true _ (all-elim (λ o. not (bit taken o && has_bit held o i)) 32 z o l))
      ∙ ap (λ (t : Bool). cond t 1 0) (sym (or-bit taken (word_of held i) o))
    where
      both : (a b : Bool) → (a && b) ≡ false → cond a 1 0 + cond b 1 0 ≡ cond (a || b) 1 0
      both true true e = never refl e
      both true false e = refl
      both false true e = refl
      both false false e = refl

  pub taken_twice : (taken i : ℕ) → i < 8 → apart taken (word_of held i) ≡ false → Taken taken i → bits_apart held ≡ false
  unfolding apart bits_apart
  taken_twice taken i l e h =
      let some = all-some (λ o. not (bit taken o && has_bit held o i)) 32 e in
      let o = some.0 in
      let twice : (bit taken o && has_bit held o i) ≡ true = not-false _ some.2 in
      let one : count_below i (has_bit held o) ≡ 1 = h o some.1 ∙ rw (and-fst (bit taken o) _ twice) in
      let two : count_below (i + 1) (has_bit held o) ≡ 2 = count-more (has_bit held o) i ∙ rw (one, and-snd (bit taken o) _ twice) in
      all-stop (bit_alone held) 32 o some.1 (lt-leb (count_below 8 (has_bit held o)) 1 (omega (arith, count-up (has_bit held o) (i + 1) 8 (omega arith))))

  pub taken-all : (taken : ℕ) → Taken taken 8 → bits_apart held ≡ true
  unfolding bits_apart
  taken-all taken h = all-intro (bit_alone held) 32 (λ o l. le-leb _ _ (go o (bit taken o) (h o l)))
    where
      go : (o : ℕ) (t : Bool) → count_below 8 (has_bit held o) ≡ cond t 1 0 → count_below 8 (has_bit held o) ≤ 1
      go o true e = omega arith
      go o false e = omega arith

-- THEOREM: where words and counts agree and no count is on no object, no bit is set in two words exactly when no object has two holders
pub apart-sole : (s : State) → Worded s → s.objects ≤ 32 → ((i o : ℕ) → i < 8 → o < 32 → Counted s.objects (thread_at s i).live o (count_of s.counts i o)) → bits_apart s.held ≡ sole_holders s.counts s.objects
unfolding bits_apart sole_holders sole_holder
apart-sole s h few counted = go (bits_apart s.held) refl (sole_holders s.counts s.objects) refl
  where
    same : (o : ℕ) → o < 32 → bit_alone s.held o ≡ sole_holder s.counts o
    same o l = ap (λ (n : ℕ). leb n 1) (count_same (has_bit s.held o) (holds_at s.counts o) 8 (λ i k. h i o k l ∙ sym (above_zero (count_of s.counts i o))))

    none : (o : ℕ) → o < 32 → s.objects ≤ o → sole_holder s.counts o ≡ true
    none o l k = le-leb (count_below 8 (holds_at s.counts o)) 1 (omega (arith, count_none (holds_at s.counts o) 8 (λ i m. free i m (ℕ_discrete (count_of s.counts i o) 0))))
      where
        free : (i : ℕ) → i < 8 → Dec (count_of s.counts i o ≡ 0) → holds_at s.counts o i ≡ false
        free i m (yes q) = rw (eq-eqb _ 0 q)
        free i m (no q) = absurd (omega (arith, (counted i o m l).on_object (omega arith)))

    go : (a : Bool) → bits_apart s.held ≡ a → (b : Bool) → sole_holders s.counts s.objects ≡ b → a ≡ b
    go true p true q = refl
    go false p false q = refl
    go true p false q =
        let some = all-some (sole_holder s.counts) s.objects q in
        let small : some.0 < 32 = omega (arith, some.1) in
        never (sym (same some.0 small) ∙ all-elim (bit_alone s.held) 32 p some.0 small) some.2
    go false p true q =
        let some = all-some (bit_alone s.held) 32 p in
        never (one some.0 some.1 (dec_lt some.0 s.objects)) some.2
      where
        one : (o : ℕ) → o < 32 → Dec (o < s.objects) → bit_alone s.held o ≡ true
        one o l (yes k) = same o l ∙ all-elim (sole_holder s.counts) s.objects q o k
        one o l (no k) = same o l ∙ none o l (omega arith)
