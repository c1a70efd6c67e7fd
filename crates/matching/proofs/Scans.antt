-- Laws of `then_short` and `first_short`: the first number that isn't 0.
use Rattle.std.specs.Prelude.{Result, Ok, Err, IsErrAnd, is_ok}
use Rattle.entries.specs.declared.Short.{Short}
use Rattle.entries.specs.declared.Short.TheVariants.{Kind, Dip, End}
use Rattle.entries.specs.Shorts.{short_number, short_in}
use Rattle.ground.proofs.Chain.{then-stop, then-go, scan-zero, scan-next, scan-left, scan-done}
use mathlib.Core.Path.{◌≡◌, refl, sym, ap, ◌∙◌}
use mathlib.Core.Bool.{Bool, true, false, cond, false≢true}
use Prim.Native.Nat.{ℕ, zero, suc, ◌+◌, ◌<◌, ◌≤◌}
use native.Mathlib.Omega.{arith}
use lib.Dec.{eqb}
use borrow.Author.Tests.{eqb-true, not-false}
use Rattle.ground.specs.Chain.{or_then, scan}
use Rattle.ground.proofs.Bools.{never}
use Rattle.matching.specs.Matching.{is_short, then_short, first_short}

pub not_short : (w : ℕ) → is_short w ≡ false → w ≡ 0
not_short w e = eqb-true w 0 (not-false (eqb w 0) e)

-- nothing comes before, nothing follows
pub nothing_then : (w : ℕ) → then_short 0 w ≡ w
unfolding or_then
nothing_then w = refl

pub then-nothing : (w : ℕ) → then_short w 0 ≡ w
unfolding or_then
then-nothing w = go (is_short w) refl
  where
    go : (t : Bool) → is_short w ≡ t → cond t w 0 ≡ w
    go true q = refl
    go false q = sym (not_short w q)

pub then-assoc : (a b c : ℕ) → then_short (then_short a b) c ≡ then_short a (then_short b c)
unfolding or_then
then-assoc a b c = go (is_short a) refl
  where
    go : (t : Bool) → is_short a ≡ t → cond (is_short (cond t a b)) (cond t a b) c ≡ cond t a (cond (is_short b) b c)
    go true q = rw q
    go false q = refl

-- a chain that gave 0 gave 0 throughout
pub then-zero : (a b : ℕ) → then_short a b ≡ 0 → (a ≡ 0) × (b ≡ 0)
unfolding or_then
then-zero a b h = go (is_short a) refl h
  where
    go : (t : Bool) → is_short a ≡ t → cond t a b ≡ 0 → (a ≡ 0) × (b ≡ 0)
    go true q h = never q (ap is_short h)
    go false q h = (not_short a q, h)

module _ (f g : ℕ → ℕ) where
  -- the same numbers
  pub first-same : (n : ℕ) → ((i : ℕ) → i < n → f i ≡ g i) → first_short n f ≡ first_short n g
  unfolding scan
  first-same zero h = refl
  first-same (suc n) h = rw (first-same n (λ i l. h i (omega arith)), h n (omega arith))

-- all of them 0
pub first-none : (n : ℕ) (f : ℕ → ℕ) → ((i : ℕ) → i < n → f i ≡ 0) → first_short n f ≡ 0
unfolding scan or_then
first-none zero f h = refl
first-none (suc n) f h = rw (first-none n f (λ i l. h i (omega arith)), h n (omega arith))

-- one number, and then the others
pub first_then : (n : ℕ) (f : ℕ → ℕ) → first_short (suc n) f ≡ then_short (f 0) (first_short n (λ j. f (suc j)))
unfolding scan
first_then zero f = nothing_then (then_short (f 0) 0)
first_then (suc n) f = ap (λ w. then_short w (then_short (f (suc n)) 0)) (first_then n f) ∙ then-assoc (f 0) (first_short n (λ j. f (suc j))) (then_short (f (suc n)) 0)

-- the first of numbers up to 3 is up to 3
pub then-few : (a b : ℕ) → a ≤ 3 → b ≤ 3 → then_short a b ≤ 3
unfolding or_then
then-few a b p q = go (is_short a)
  where
    go : (t : Bool) → cond t a b ≤ 3
    go true = p
    go false = q

pub first-few : (n : ℕ) (f : ℕ → ℕ) → ((j : ℕ) → f j ≤ 3) → first_short n f ≤ 3
unfolding scan
first-few zero f h = omega arith
first-few (suc n) f h = then-few (first_short n f) (then_short (f n) 0) (first-few n f h) (then-few (f n) 0 (h n) (omega arith))

-- ---- what `?` hands on is short, and what fits is 0
pub ok_fits : (r : Result Unit Short) → is_ok r ≡ true → short_in r ≡ 0
ok_fits (Ok _) h = refl
ok_fits (Err s) h = absurd (false≢true h)

shorted : (s : Short) → is_short (short_number s) ≡ true
shorted Kind = refl
shorted Dip = refl
shorted End = refl

module _ (r : Result Unit Short) (s : Short) (h : IsErrAnd r (λ x. x ≡ s)) where
  handed : (r : Result Unit Short) → IsErrAnd r (λ x. x ≡ s) → short_in r ≡ short_number s
  handed (Ok _) h = absurd h
  handed (Err x) h = ap short_number h

  -- .. of the first of two stages, and of a turn of a search
  pub short-left : {u : ℕ} (w : ℕ) → short_number s ≡ u → short_in r ≡ then_short u w
  short-left w e = then-stop is_short _ w (handed r h ∙ e) (rw (handed r h) (shorted s))

  pub first-left : (f : ℕ → ℕ) (n i : ℕ) → i < n → first_short i f ≡ 0 → short_number s ≡ f i → short_in r ≡ first_short n f
  first-left f n i l a e = scan-left is_short 0 refl f n i l a (handed r h ∙ e) (rw (handed r h) (shorted s))

-- .. and what goes on is not
pub short-go : {u v w : ℕ} → 0 ≡ u → v ≡ w → v ≡ then_short u w
short-go e q = then-go is_short _ e refl q

module _ (f : ℕ → ℕ) where
  pub first-zero : first_short 0 f ≡ 0
  first-zero = scan-zero is_short 0 refl f

  pub first-next : (i : ℕ) → first_short i f ≡ 0 → 0 ≡ f i → first_short (i + 1) f ≡ 0
  first-next i a e = scan-next is_short 0 refl f i a e refl

  pub first-done : (n i : ℕ) → i ≤ n → n ≤ i → first_short i f ≡ 0 → 0 ≡ first_short n f
  first-done n i l k a = scan-done is_short 0 refl f n i l k a
