-- How many parts and prefixes a reading allows for does not matter, once they are as many as the text has bytes.
use mathlib.Core.Path.{◌≡◌, refl, sym, ap, ◌∙◌}
use mathlib.Core.List.{List}
use mathlib.Core.Bool.{Bool, true, false}
use Prim.Native.Nat.{ℕ, zero, suc, ◌<◌, ◌≤◌}
use native.Mathlib.Omega.{arith}
use lib.Dec.{eqb}
use lib.ListN.{length, drop, length-append}
use borrow.Author.Tests.{eqb-true}
use Rattle.ground.specs.Bytes.{at}
use Rattle.usages.specs.Usage.{Usage, done, lock, unlock}
use Rattle.usage_text.specs.Grammar.{Texts}
use Rattle.usage_text.specs.declared.Head.{Head}
use Rattle.usage_text.specs.declared.Head.TheVariants.{Nought, Lock, Unlock, Open, Other}
use Rattle.usage_text.specs.Reading.{Read, unread, read, head_of, under, closed, prefixed, onward, read_prefixed}
use Rattle.usage_text.proofs.Heads.{begins, head-lock, head-unlock, at-nought, at-lock, at-unlock, at_open_lem, at_other, at-end, at_gap, at_sign}
use Rattle.usage_text.proofs.Sound.{Sound}

-- ---- prefixes
pub lock-shorter : (s : List ℕ) → head_of s ≡ Lock → length s ≡ suc (suc (length (drop 2 s)))
lock-shorter s e = ap length (head-lock s e)

pub unlock-shorter : (s : List ℕ) → head_of s ≡ Unlock → length s ≡ suc (suc (suc (length (drop 3 s))))
unlock-shorter s e = ap length (head-unlock s e)

module _ (inside : List ℕ → Read) where
  prefixed-fuel : (k m : ℕ) (s : List ℕ) → length s < k → length s < m → prefixed inside k s ≡ prefixed inside m s
  prefixed-fuel zero m s p q = absurd (omega arith)
  prefixed-fuel (suc k) zero s p q = absurd (omega arith)
  prefixed-fuel (suc k) (suc m) s p q = go (head_of s) refl (prefixed-fuel k m)
    where
      go : (h : Head) → head_of s ≡ h → ((t : List ℕ) → length t < k → length t < m → prefixed inside k t ≡ prefixed inside m t)
          → prefixed inside (suc k) s ≡ prefixed inside (suc m) s
      go Nought e ih = at-nought inside k s e ∙ sym (at-nought inside m s e)
      go Lock e ih =
          at-lock inside k s e
          ∙ ap (under lock) (ih (drop 2 s) (omega (arith, lock-shorter s e)) (omega (arith, lock-shorter s e)))
          ∙ sym (at-lock inside m s e)
      go Unlock e ih =
          at-unlock inside k s e
          ∙ ap (under unlock) (ih (drop 3 s) (omega (arith, unlock-shorter s e)) (omega (arith, unlock-shorter s e)))
          ∙ sym (at-unlock inside m s e)
      go Open e ih = at_open_lem inside k s e ∙ sym (at_open_lem inside m s e)
      go Other e ih = at_other inside k s e ∙ sym (at_other inside m s e)

  module _ (s : List ℕ) where
    pub read-nought : head_of s ≡ Nought → read_prefixed inside s ≡ read done (drop 1 s)
    unfolding read_prefixed
    read-nought e = at-nought inside (length s) s e

    pub read-lock : head_of s ≡ Lock → read_prefixed inside s ≡ under lock (read_prefixed inside (drop 2 s))
    unfolding read_prefixed
    read-lock e =
        at-lock inside (length s) s e
        ∙ ap (under lock) (prefixed-fuel (length s) (suc (length (drop 2 s))) (drop 2 s) (omega (arith, lock-shorter s e)) (omega arith))

    pub read-unlock : head_of s ≡ Unlock → read_prefixed inside s ≡ under unlock (read_prefixed inside (drop 3 s))
    unfolding read_prefixed
    read-unlock e =
        at-unlock inside (length s) s e
        ∙ ap (under unlock) (prefixed-fuel (length s) (suc (length (drop 3 s))) (drop 3 s) (omega (arith, unlock-shorter s e)) (omega arith))

    pub read-open : head_of s ≡ Open → read_prefixed inside s ≡ closed (inside (drop 1 s))
    unfolding read_prefixed
    read-open e = at_open_lem inside (length s) s e

    pub read-other : head_of s ≡ Other → read_prefixed inside s ≡ unread
    unfolding read_prefixed
    read-other e = at_other inside (length s) s e

-- ---- parts
-- what is left is never longer
pub rest-short : {P : Texts} {reads : List ℕ → Read} → Sound P reads → (s : List ℕ) (u : Usage) (r : List ℕ) → reads s ≡ read u r → length r ≤ length s
rest-short ok s u r e = let t = ok s u r e in omega (arith, ap length t.split, length-append t.front r)

module _ (sign : ℕ) (join : Usage → Usage → Usage) (part : List ℕ → Read) where
  -- no sign follows
  pub onward-stop : (k : ℕ) (u : Usage) (s : List ℕ) → eqb (at s 0) sign ≡ false → onward sign join part k u s ≡ read u s
  unfolding onward
  onward-stop zero u s e = refl
  onward-stop (suc k) u s e = at-end sign join part k u s e

  module _ (positive : 0 < sign) (short : (s : List ℕ) (u : Usage) (r : List ℕ) → part s ≡ read u r → length r ≤ length s) where
    sign-shorter : (s : List ℕ) → eqb (at s 0) sign ≡ true → length s ≡ suc (length (drop 1 s))
    sign-shorter s e = ap length (begins sign s positive (eqb-true (at s 0) sign e))

    onward-fuel : (k m : ℕ) (u : Usage) (s : List ℕ) → length s ≤ k → length s ≤ m
        → onward sign join part k u s ≡ onward sign join part m u s
    onward-fuel zero m u s p q = go (eqb (at s 0) sign) refl
      where
        go : (b : Bool) → eqb (at s 0) sign ≡ b → onward sign join part 0 u s ≡ onward sign join part m u s
        go true e = absurd (omega (arith, sign-shorter s e))
        go false e = onward-stop 0 u s e ∙ sym (onward-stop m u s e)
    onward-fuel (suc k) zero u s p q = go (eqb (at s 0) sign) refl
      where
        go : (b : Bool) → eqb (at s 0) sign ≡ b → onward sign join part (suc k) u s ≡ onward sign join part 0 u s
        go true e = absurd (omega (arith, sign-shorter s e))
        go false e = onward-stop (suc k) u s e ∙ sym (onward-stop 0 u s e)
    onward-fuel (suc k) (suc m) u s p q = go (eqb (at s 0) sign) refl (part (drop 1 s)) refl (onward-fuel k m)
      where
        go : (b : Bool) → eqb (at s 0) sign ≡ b → (x : Read) → part (drop 1 s) ≡ x
            → ((u : Usage) (s : List ℕ) → length s ≤ k → length s ≤ m → onward sign join part k u s ≡ onward sign join part m u s)
            → onward sign join part (suc k) u s ≡ onward sign join part (suc m) u s
        go false e x f ih = onward-stop (suc k) u s e ∙ sym (onward-stop (suc m) u s e)
        go true e unread f ih = at_gap sign join part k u s e f ∙ sym (at_gap sign join part m u s e f)
        go true e (read v r) f ih =
            at_sign sign join part k u s v r e f
            ∙ ih (join u v) r (omega (arith, sign-shorter s e, short (drop 1 s) v r f)) (omega (arith, sign-shorter s e, short (drop 1 s) v r f))
            ∙ sym (at_sign sign join part m u s v r e f)

    -- a sign, and a part behind it
    pub onward-more : (u v : Usage) (s r : List ℕ) → eqb (at s 0) sign ≡ true → part (drop 1 s) ≡ read v r
        → onward sign join part (length s) u s ≡ onward sign join part (length r) (join u v) r
    onward-more u v s r e f =
        onward-fuel (length s) (suc (length s)) u s (omega arith) (omega arith)
        ∙ at_sign sign join part (length s) u s v r e f
        ∙ onward-fuel (length s) (length r) (join u v) r (omega (arith, sign-shorter s e, short (drop 1 s) v r f)) (omega arith)

    -- a sign, and no part behind it
    pub onward-gap : (u : Usage) (s : List ℕ) → eqb (at s 0) sign ≡ true → part (drop 1 s) ≡ unread
        → onward sign join part (length s) u s ≡ unread
    onward-gap u s e f =
        onward-fuel (length s) (suc (length s)) u s (omega arith) (omega arith) ∙ at_gap sign join part (length s) u s e f
