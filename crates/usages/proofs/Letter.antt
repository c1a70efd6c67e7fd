-- The definitions to the letter: a usage that they call reliable, and whose Fin is 1.
use mathlib.Core.Path.{◌≡◌, refl, sym, ap, ◌∙◌}
use mathlib.Core.Logic.{◌⊎◌, inl, inr, ⊎_elim}
use mathlib.Core.Bool.{Bool, true, false, cond, ◌&&◌, false≢true}
use Prim.Native.Nat.{ℕ, ◌+◌, ◌≤◌}
use native.Mathlib.Omega.{arith}
use lib.Dec.{eqb}
use lib.IntN.{ℤ, pos, ◌+ℤ◌}
use borrow.Author.Tests.{eqb-true}
use Rattle.ground.proofs.Bools.{and-fst, and-snd}
use Rattle.usages.specs.Usage.{Usage, done, lock, unlock, either, both}
use Rattle.usages.specs.Counts.{most, fin_of}
use Rattle.usages.specs.Letter.{Same, same, back, through, in_lock, in_unlock, in_either, in_both, either_grouped, either_turned, both_grouped, both_turned, both_done, LetterStep, locks, unlocks, by_left, by_right, on_left, alike, LetterReach, here, further, LetterReliable, shown, LetterDiffers, LetterDisagrees}

-- ---- what no congruence changes
-- nothing in it can be done
unfoldable still : Usage → Bool
still done = true
still (lock u) = false
still (unlock u) = false
still (either u v) = still u && still v
still (both u v) = still u && still v

-- how many choices stand side by side
unfoldable choices : Usage → ℕ
choices done = 0
choices (lock u) = 0
choices (unlock u) = 0
choices (either u v) = 1
choices (both u v) = choices u + choices v

-- how many locks in front of one still choice stand side by side; what else can be done counts for two
unfoldable moves : Usage → ℕ
moves done = 0
moves (lock u) = cond (still u && eqb (choices u) 1) 1 2
moves (unlock u) = 2
moves (either u v) = cond (still u && still v) 0 2
moves (both u v) = moves u + moves v

and-turned : (a b : Bool) → (a && b) ≡ (b && a)
and-turned true true = refl
and-turned true false = refl
and-turned false true = refl
and-turned false false = refl

and-grouped : (a b c : Bool) → ((a && b) && c) ≡ (a && (b && c))
and-grouped true b c = refl
and-grouped false b c = refl

and-true : (a : Bool) → (a && true) ≡ a
and-true true = refl
and-true false = refl

record Alike (u v : Usage) : Type 0 where
  still_too : still u ≡ still v
  choices_too : choices u ≡ choices v
  moves_too : moves u ≡ moves v

same_alike : {u v : Usage} → Same u v → Alike u v
unfolding still choices moves
same_alike same = record { still_too = refl; choices_too = refl; moves_too = refl }
same_alike (back s) =
    let a = same_alike s in
    record { still_too = sym a.still_too; choices_too = sym a.choices_too; moves_too = sym a.moves_too }
same_alike (through s t) =
    let a = same_alike s in
    let b = same_alike t in
    record { still_too = a.still_too ∙ b.still_too; choices_too = a.choices_too ∙ b.choices_too; moves_too = a.moves_too ∙ b.moves_too }
same_alike (in_lock s) =
    let a = same_alike s in
    record { still_too = refl; choices_too = refl; moves_too = rw (a.still_too, a.choices_too) }
same_alike (in_unlock s) = record { still_too = refl; choices_too = refl; moves_too = refl }
same_alike (in_either s t) =
    let a = same_alike s in
    let b = same_alike t in
    record { still_too = rw (a.still_too, b.still_too); choices_too = refl; moves_too = rw (a.still_too, b.still_too) }
same_alike (in_both s t) =
    let a = same_alike s in
    let b = same_alike t in
    record {
      still_too = rw (a.still_too, b.still_too);
      choices_too = rw (a.choices_too, b.choices_too);
      moves_too = rw (a.moves_too, b.moves_too);
    }
same_alike (either_grouped {u} {v} {w}) =
    let e = and-grouped (still u) (still v) (still w) in
    record { still_too = e; choices_too = refl; moves_too = ap (λ (t : Bool). cond t 0 2) e }
same_alike (either_turned {u} {v}) =
    let e = and-turned (still u) (still v) in
    record { still_too = e; choices_too = refl; moves_too = ap (λ (t : Bool). cond t 0 2) e }
same_alike (both_grouped {u} {v} {w}) =
    record { still_too = and-grouped (still u) (still v) (still w); choices_too = omega arith; moves_too = omega arith }
same_alike (both_turned {u} {v}) =
    record { still_too = and-turned (still u) (still v); choices_too = omega arith; moves_too = omega arith }
same_alike (both_done {u}) = record { still_too = and-true (still u); choices_too = omega arith; moves_too = omega arith }

still-moves : (u : Usage) → still u ≡ true → moves u ≡ 0
unfolding still moves
still-moves done e = refl
still-moves (lock u) e = absurd (false≢true e)
still-moves (unlock u) e = absurd (false≢true e)
still-moves (either u v) e = rw e
still-moves (both u v) e =
    omega (arith, still-moves u (and-fst (still u) (still v) e), still-moves v (and-snd (still u) (still v) e))

-- ---- steps
module _ (Count : ℤ → Type 0) where
  still-stays : {u v : Usage} {n m : ℤ} → still u ≡ true → LetterStep Count u n v m → ⊥
  unfolding still
  still-stays e locks = false≢true e
  still-stays e (unlocks c) = false≢true e
  still-stays e (by_left {u} {v} s) = still-stays (and-fst (still u) (still v) e) s
  still-stays e (by_right {u} {v} s) = still-stays (and-snd (still u) (still v) e) s
  still-stays e (on_left {u} {v} s) = still-stays (and-fst (still u) (still v) e) s
  still-stays e (alike p s q) = still-stays (sym (same_alike p).still_too ∙ e) s

  -- a step of what has one move at most: it was that move, a lock, and one choice more is left
  record Moved (u : Usage) (n : ℤ) (v : Usage) (m : ℤ) : Type 0 where
    one : moves u ≡ 1
    none : moves v ≡ 0
    more : choices v ≡ choices u + 1
    locked : m ≡ n +ℤ pos 1

  step-moved : {u v : Usage} {n m : ℤ} → LetterStep Count u n v m → moves u ≤ 1 → Moved u n v m
  unfolding moves choices
  step-moved (locks {u} {n}) l = go (still u && eqb (choices u) 1) refl l
    where
      go : (t : Bool) → (still u && eqb (choices u) 1) ≡ t → cond t 1 2 ≤ 1 → Moved (lock u) n u (n +ℤ pos 1)
      go true e k =
          record {
            one = rw e;
            none = still-moves u (and-fst (still u) (eqb (choices u) 1) e);
            more = eqb-true (choices u) 1 (and-snd (still u) (eqb (choices u) 1) e);
            locked = refl;
          }
      go false e k = absurd (omega arith)
  step-moved (unlocks c) l = absurd (omega arith)
  step-moved (by_left {u} {v} s) l = absurd (chosen (still u && still v) refl l)
    where
      chosen : (t : Bool) → (still u && still v) ≡ t → cond t 0 2 ≤ 1 → ⊥
      chosen true e k = still-stays (and-fst (still u) (still v) e) s
      chosen false e k = omega arith
  step-moved (by_right {u} {v} s) l = absurd (chosen (still u && still v) refl l)
    where
      chosen : (t : Bool) → (still u && still v) ≡ t → cond t 0 2 ≤ 1 → ⊥
      chosen true e k = still-stays (and-snd (still u) (still v) e) s
      chosen false e k = omega arith
  step-moved (on_left {u} {v} s) l =
      let h = step-moved s (omega arith) in
      record {
        one = omega (arith, h.one);
        none = omega (arith, h.none, h.one);
        more = omega (arith, h.more);
        locked = h.locked;
      }
  step-moved (alike p s q) l =
      let a = same_alike p in
      let b = same_alike q in
      let h = step-moved s (omega (arith, a.moves_too)) in
      record {
        one = omega (arith, a.moves_too, h.one);
        none = omega (arith, b.moves_too, h.none);
        more = omega (arith, a.choices_too, b.choices_too, h.more);
        locked = h.locked;
      }

  -- what `shown` comes to: itself, free, or two choices side by side, held
  record Free (u : Usage) (n : ℤ) : Type 0 where
    one_move : moves u ≡ 1
    one_choice : choices u ≡ 1
    free : n ≡ pos 0

  record Held (u : Usage) (n : ℤ) : Type 0 where
    no_move : moves u ≡ 0
    two_choices : choices u ≡ 2

  reached : {v : Usage} {m : ℤ} → LetterReach Count shown (pos 0) v m → Free v m ⊎ Held v m
  unfolding moves choices still
  reached here = inl (record { one_move = refl; one_choice = refl; free = refl })
  reached (further r s) =
      ⊎_elim
      (λ f. let h = step-moved s (omega (arith, f.one_move)) in
      inr (record { no_move = h.none; two_choices = omega (arith, h.more, f.one_choice) }))
      (λ f. let h = step-moved s (omega (arith, f.no_move)) in absurd (omega (arith, h.one, f.no_move)))
      (reached r)

  -- ---- the two conditions
  few-choices : {v : Usage} {m : ℤ} → choices v ≤ 1 → Free v m ⊎ Held v m → m ≡ pos 0
  few-choices l = ⊎_elim (λ f. f.free) (λ f. absurd (omega (arith, f.two_choices)))

  many-moves : {A : Type 0} {v : Usage} {m : ℤ} → 2 ≤ moves v → Free v m ⊎ Held v m → A
  many-moves l = ⊎_elim (λ f. absurd (omega (arith, f.one_move))) (λ f. absurd (omega (arith, f.no_move)))

  pub letter-reliable : LetterReliable Count shown
  unfolding still choices moves
  letter-reliable =
      record {
        ends_free = λ v m r e.
            few-choices (⊎_elim (λ s. omega (arith, (same_alike s).choices_too)) (λ s. omega (arith, (same_alike s.1).choices_too)) e) (reached r);
        held = λ v m r e.
            many-moves (⊎_elim (λ s. omega (arith, (same_alike s.2).moves_too)) (λ s. omega (arith, (same_alike s.3).moves_too)) e) (reached r);
      }

-- THEOREM
pub letter-differs : LetterDiffers
unfolding fin_of most
letter-differs = (letter-reliable, refl)

-- THEOREM: over the definitions to the letter appendix A's test is not reliability
pub letter-disagrees : LetterDisagrees
letter-disagrees Count agree = apart (sym letter-differs.1 ∙ ((agree shown).0 (letter-reliable Count)).1)
  where
    apart : pos 1 ≡ pos 0 → ⊥
    apart e = let z : ◌≡◌ {A = ℕ} 1 0 = cc in omega arith
