-- Refusals and stages: one law for each turn of the code that tests and returns in the definition's order.
use mathlib.Core.Path.{◌≡◌, refl, sym, ◌∙◌, subst}
use mathlib.Core.Logic.{⊎_elim}
use mathlib.Core.Bool.{Bool, true, false, cond, not}
use Prim.Native.Nat.{ℕ, zero, suc, ◌+◌, ◌<◌, ◌≤◌}
use native.Mathlib.Nat.{le_of_suc-le-suc, not-suc-le-zero, eq-or-lt_of_le, le_antisymm}
use native.Mathlib.Numerals.{add-one}
use native.Mathlib.Omega.{arith}
use borrow.Author.Tests.{not-true, not-false}
use Rattle.ground.specs.Chain.{refuse, or_then, scan}
use Rattle.ground.proofs.Bools.{never}

module _ {A : Type 0} where
  -- the test's value is the code's flag t
  pub stop : (v rest : A) {t ok : Bool} → t ≡ ok → not t ≡ true → v ≡ refuse ok v rest
  unfolding refuse
  stop v rest {t} e f = rw (← e, not-true t f)

  pub go : (v : A) {x rest : A} {t ok : Bool} → t ≡ ok → not t ≡ false → x ≡ rest → x ≡ refuse ok v rest
  unfolding refuse
  go v {x} {rest} {t} e f q = rw (← e, not-false t f) q

  -- the test's value is known outright
  pub refused : (v rest : A) {ok : Bool} → ok ≡ false → refuse ok v rest ≡ v
  unfolding refuse
  refused v rest e = rw e

  pub went_on_lem : (v rest : A) {ok : Bool} → ok ≡ true → refuse ok v rest ≡ rest
  unfolding refuse
  went_on_lem v rest e = rw e

-- a refusal by a number that isn't 0, where 0 came of it
pub tested : (ok : Bool) (n rest : ℕ) → refuse ok (suc n) rest ≡ 0 → (ok ≡ true) × (rest ≡ 0)
unfolding refuse
tested true n rest e = (refl, e)
tested false n rest e = absurd (omega arith)

module _ {A : Type 0} (bad : A → Bool) where
  pub then-stop : (u w : A) {v : A} → v ≡ u → bad v ≡ true → v ≡ or_then bad u w
  unfolding or_then
  then-stop u w q e = rw (← q, e)

  pub then-go : (u : A) {v w x : A} → v ≡ u → bad v ≡ false → x ≡ w → x ≡ or_then bad u w
  unfolding or_then
  then-go u q e r = rw (← q, e) r

  pub then-elim : (u w : A) → bad (or_then bad u w) ≡ false → (bad u ≡ false) × (bad w ≡ false)
  unfolding or_then
  then-elim u w h = split (bad u) refl h
    where
      split : (t : Bool) → bad u ≡ t → bad (cond t u w) ≡ false → (bad u ≡ false) × (bad w ≡ false)
      split true p h = never p h
      split false p h = (p, h)

module _ {A : Type 0} (bad : A → Bool) (pass : A) (fine : bad pass ≡ false) (f : ℕ → A) where
  pub scan-zero : scan bad pass 0 f ≡ pass
  unfolding scan
  scan-zero = refl

  scan-more : (i : ℕ) → scan bad pass i f ≡ pass → bad (f i) ≡ false → scan bad pass (i + 1) f ≡ pass
  unfolding scan or_then
  scan-more i a e = rw (add-one, a, fine, e)

  scan-at : (n i : ℕ) → i < n → scan bad pass i f ≡ pass → bad (f i) ≡ true → scan bad pass n f ≡ f i
  unfolding scan or_then
  scan-at zero i l a e = absurd (not-suc-le-zero l)
  scan-at (suc n) i l a e =
      ⊎_elim (λ q. rw (← q, a, fine, e)) (λ k. rw (scan-at n i k a e, e)) (eq-or-lt_of_le (le_of_suc-le-suc l))

  -- a loop's turns, with v the answer that the turn got
  pub scan-next : (i : ℕ) {v : A} → scan bad pass i f ≡ pass → v ≡ f i → bad v ≡ false → scan bad pass (i + 1) f ≡ pass
  scan-next i a q e = scan-more i a (subst (λ (w : A). bad w ≡ false) q e)

  pub scan-left : (n i : ℕ) {v : A} → i < n → scan bad pass i f ≡ pass → v ≡ f i → bad v ≡ true → v ≡ scan bad pass n f
  scan-left n i l a q e = q ∙ sym (scan-at n i l a (subst (λ (w : A). bad w ≡ true) q e))

  pub scan-done : (n i : ℕ) → i ≤ n → n ≤ i → scan bad pass i f ≡ pass → pass ≡ scan bad pass n f
  scan-done n i l k a = sym (subst (λ (m : ℕ). scan bad pass m f ≡ pass) (le_antisymm l k) a)

  steps : (n : ℕ) → bad (scan bad pass (suc n) f) ≡ false → (bad (scan bad pass n f) ≡ false) × (bad (f n) ≡ false)
  unfolding scan or_then
  steps n h = ends (scan bad pass n f) (f n) (bad (scan bad pass n f)) refl h
    where
      last : (w : A) (t : Bool) → bad w ≡ t → bad (cond t w pass) ≡ false → bad w ≡ false
      last w true p h = h
      last w false p h = p

      ends : (v w : A) (t : Bool) → bad v ≡ t → bad (cond t v (cond (bad w) w pass)) ≡ false → (bad v ≡ false) × (bad w ≡ false)
      ends v w true p h = never p h
      ends v w false p h = (p, last w (bad w) refl h)

  -- a search that found nothing: each answer was well
  pub scan-each : (n : ℕ) → bad (scan bad pass n f) ≡ false → (i : ℕ) → i < n → bad (f i) ≡ false
  scan-each zero h i l = absurd (not-suc-le-zero l)
  scan-each (suc n) h i l = ⊎_elim (λ q. rw q (steps n h).1) (λ k. scan-each n (steps n h).0 i k) (eq-or-lt_of_le (le_of_suc-le-suc l))
