-- What the head of a text says of it, and what a reading does at each head.
use mathlib.Core.Path.{◌≡◌, refl, ap}
use mathlib.Core.List.{List, [], ◌∷◌}
use mathlib.Core.Bool.{Bool, true, false, cond, ◌&&◌}
use Prim.Native.Nat.{ℕ, suc, ◌<◌}
use native.Mathlib.Omega.{arith}
use lib.Dec.{eqb, lit<}
use lib.ListN.{drop}
use borrow.Author.Tests.{eqb-true}
use Rattle.ground.specs.Bytes.{at}
use Rattle.ground.proofs.Bools.{and-fst, and-snd}
use Rattle.usages.specs.Usage.{Usage, done, lock, unlock}
use Rattle.usage_text.specs.Signs.{nought, ell, dot, hat, open_sign}
use Rattle.usage_text.specs.declared.Head.{Head}
use Rattle.usage_text.specs.declared.Head.TheVariants.{Nought, Lock, Unlock, Open, Other}
use Rattle.usage_text.specs.Reading.{Read, unread, read, at_nought, at_lock, at_unlock, at_open, head_of, under, closed, prefixed, onward}

-- ---- the first bytes
pub begins : (b : ℕ) (s : List ℕ) → 0 < b → at s 0 ≡ b → s ≡ b ∷ drop 1 s
begins b [] l e = absurd (omega arith)
begins b (c ∷ s) l e = rw e

begins-2 : (b c : ℕ) (s : List ℕ) → 0 < b → 0 < c → at s 0 ≡ b → at s 1 ≡ c → s ≡ b ∷ c ∷ drop 2 s
begins-2 b c [] l k e f = absurd (omega arith)
begins-2 b c (x ∷ s) l k e f = rw e (ap (λ (t : List ℕ). b ∷ t) (begins c s k f))

begins-3 : (b c d : ℕ) (s : List ℕ) → 0 < b → 0 < c → 0 < d → at s 0 ≡ b → at s 1 ≡ c → at s 2 ≡ d → s ≡ b ∷ c ∷ d ∷ drop 3 s
begins-3 b c d [] l k m e f g = absurd (omega arith)
begins-3 b c d (x ∷ s) l k m e f g = rw e (ap (λ (t : List ℕ). b ∷ t) (begins-2 c d s k m f g))

-- ---- which test a head passed
chosen : Bool → Bool → Bool → Bool → Head
chosen a b c d = cond a Nought (cond b Lock (cond c Unlock (cond d Open Other)))

chosen-nought : (a b c d : Bool) → chosen a b c d ≡ Nought → a ≡ true
unfolding chosen
chosen-nought true b c d e = refl
chosen-nought false true c d e = cc
chosen-nought false false true d e = cc
chosen-nought false false false true e = cc
chosen-nought false false false false e = cc

chosen-lock : (a b c d : Bool) → chosen a b c d ≡ Lock → b ≡ true
unfolding chosen
chosen-lock true b c d e = cc
chosen-lock false true c d e = refl
chosen-lock false false true d e = cc
chosen-lock false false false true e = cc
chosen-lock false false false false e = cc

chosen-unlock : (a b c d : Bool) → chosen a b c d ≡ Unlock → c ≡ true
unfolding chosen
chosen-unlock true b c d e = cc
chosen-unlock false true c d e = cc
chosen-unlock false false true d e = refl
chosen-unlock false false false true e = cc
chosen-unlock false false false false e = cc

chosen-open : (a b c d : Bool) → chosen a b c d ≡ Open → d ≡ true
unfolding chosen
chosen-open true b c d e = cc
chosen-open false true c d e = cc
chosen-open false false true d e = cc
chosen-open false false false true e = refl
chosen-open false false false false e = cc

module _ (s : List ℕ) where
  pub head-nought : head_of s ≡ Nought → s ≡ nought ∷ drop 1 s
  unfolding head_of chosen
  head-nought e = begins nought s (lit< tt) (eqb-true (at s 0) nought (chosen-nought (at_nought s) (at_lock s) (at_unlock s) (at_open s) e))

  pub head-lock : head_of s ≡ Lock → s ≡ ell ∷ dot ∷ drop 2 s
  unfolding head_of chosen
  head-lock e =
      let t = chosen-lock (at_nought s) (at_lock s) (at_unlock s) (at_open s) e in
      begins-2 ell dot s (lit< tt) (lit< tt) (eqb-true (at s 0) ell (and-fst (eqb (at s 0) ell) (eqb (at s 1) dot) t))
      (eqb-true (at s 1) dot (and-snd (eqb (at s 0) ell) (eqb (at s 1) dot) t))

  pub head-unlock : head_of s ≡ Unlock → s ≡ hat ∷ ell ∷ dot ∷ drop 3 s
  unfolding head_of chosen
  head-unlock e =
      let t = chosen-unlock (at_nought s) (at_lock s) (at_unlock s) (at_open s) e in
      let u = and-snd (eqb (at s 0) hat) (eqb (at s 1) ell && eqb (at s 2) dot) t in
      begins-3 hat ell dot s (lit< tt) (lit< tt) (lit< tt)
      (eqb-true (at s 0) hat (and-fst (eqb (at s 0) hat) (eqb (at s 1) ell && eqb (at s 2) dot) t))
      (eqb-true (at s 1) ell (and-fst (eqb (at s 1) ell) (eqb (at s 2) dot) u))
      (eqb-true (at s 2) dot (and-snd (eqb (at s 1) ell) (eqb (at s 2) dot) u))

  pub head-open : head_of s ≡ Open → s ≡ open_sign ∷ drop 1 s
  unfolding head_of chosen
  head-open e = begins open_sign s (lit< tt) (eqb-true (at s 0) open_sign (chosen-open (at_nought s) (at_lock s) (at_unlock s) (at_open s) e))

-- ---- what is read at each head
module _ (inside : List ℕ → Read) (k : ℕ) (s : List ℕ) where
  pub at-nought : head_of s ≡ Nought → prefixed inside (suc k) s ≡ read done (drop 1 s)
  unfolding prefixed
  at-nought e = rw (e, prefixed)

  pub at-lock : head_of s ≡ Lock → prefixed inside (suc k) s ≡ under lock (prefixed inside k (drop 2 s))
  unfolding prefixed
  at-lock e = rw (e, prefixed)

  pub at-unlock : head_of s ≡ Unlock → prefixed inside (suc k) s ≡ under unlock (prefixed inside k (drop 3 s))
  unfolding prefixed
  at-unlock e = rw (e, prefixed)

  pub at_open_lem : head_of s ≡ Open → prefixed inside (suc k) s ≡ closed (inside (drop 1 s))
  unfolding prefixed
  at_open_lem e = rw (e, prefixed)

  pub at_other : head_of s ≡ Other → prefixed inside (suc k) s ≡ unread
  unfolding prefixed
  at_other e = rw (e, prefixed)

-- ---- what is read behind a part
module _ (sign : ℕ) (join : Usage → Usage → Usage) (part : List ℕ → Read) (k : ℕ) (u : Usage) (s : List ℕ) where
  pub at-end : eqb (at s 0) sign ≡ false → onward sign join part (suc k) u s ≡ read u s
  unfolding onward
  at-end e = rw (e, onward)

  pub at_gap : eqb (at s 0) sign ≡ true → part (drop 1 s) ≡ unread → onward sign join part (suc k) u s ≡ unread
  unfolding onward
  at_gap e f = rw (e, f, onward)

  pub at_sign : (v : Usage) (r : List ℕ) → eqb (at s 0) sign ≡ true → part (drop 1 s) ≡ read v r
      → onward sign join part (suc k) u s ≡ onward sign join part k (join u v) r
  unfolding onward
  at_sign v r e f = rw (e, f, onward)

-- ---- the head by the tests
module _ (s : List ℕ) where
  pub is-nought : at_nought s ≡ true → Nought ≡ head_of s
  unfolding head_of
  is-nought e = rw e

  pub is-lock : at_nought s ≡ false → at_lock s ≡ true → Lock ≡ head_of s
  unfolding head_of
  is-lock e f = rw (e, f)

  pub is-unlock : at_nought s ≡ false → at_lock s ≡ false → at_unlock s ≡ true → Unlock ≡ head_of s
  unfolding head_of
  is-unlock e f g = rw (e, f, g)

  pub is_open : at_nought s ≡ false → at_lock s ≡ false → at_unlock s ≡ false → at_open s ≡ true → Open ≡ head_of s
  unfolding head_of
  is_open e f g h = rw (e, f, g, h)

  pub is-other : at_nought s ≡ false → at_lock s ≡ false → at_unlock s ≡ false → at_open s ≡ false → Other ≡ head_of s
  unfolding head_of
  is-other e f g h = rw (e, f, g, h)
