-- What the bytes of an entry say of it, without taking it apart; what is no reference; and that fits is reflexive.
use mathlib.Core.Path.{◌≡◌, refl, sym}
use mathlib.Core.Bool.{Bool, true, false, cond, ◌&&◌, ◌||◌}
use Prim.Native.Nat.{ℕ, ◌≤◌}
use lib.Dec.{eqb, leb}
use borrow.Author.Tests.{eqb-true, eqb-false, eq-eqb, ne_eqb, le-leb}
use native.Mathlib.Omega.{arith}
use Rattle.ground.specs.Chain.{refuse}
use Rattle.ground.proofs.Bools.{never}
use Rattle.entries.specs.Entries.{Entry, Int, Top, Ref, Nullable, Blank, Malformed, zeros, pair_ok, nullable_ok, entry_of, kind_of, class_of, dip_of, end_of, is_int, is_top, is_blank, is_reference, is_nullable, is_type, may_be_of, no_end}
use Rattle.entries.specs.Fits.{takes, Want, compare, want}

-- of a test of the bytes: that it holds for each kind is that it holds for all
by_kind : (B : ℕ → Type 0) → B 0 → B 1 → B 2 → B 3 → B 4
    → ((kind : ℕ) → eqb kind 0 ≡ false → eqb kind 1 ≡ false → eqb kind 2 ≡ false → eqb kind 3 ≡ false → eqb kind 4 ≡ false → B kind)
    → (kind : ℕ) → B kind
by_kind B b0 b1 b2 b3 b4 other kind = go0 (eqb kind 0) refl
  where
    go4 : (t : Bool) → eqb kind 4 ≡ t → eqb kind 0 ≡ false → eqb kind 1 ≡ false → eqb kind 2 ≡ false → eqb kind 3 ≡ false → B kind
    go4 true q p0 p1 p2 p3 = rw (eqb-true kind 4 q) b4
    go4 false q p0 p1 p2 p3 = other kind p0 p1 p2 p3 q

    go3 : (t : Bool) → eqb kind 3 ≡ t → eqb kind 0 ≡ false → eqb kind 1 ≡ false → eqb kind 2 ≡ false → B kind
    go3 true q p0 p1 p2 = rw (eqb-true kind 3 q) b3
    go3 false q p0 p1 p2 = go4 (eqb kind 4) refl p0 p1 p2 q

    go2 : (t : Bool) → eqb kind 2 ≡ t → eqb kind 0 ≡ false → eqb kind 1 ≡ false → B kind
    go2 true q p0 p1 = rw (eqb-true kind 2 q) b2
    go2 false q p0 p1 = go3 (eqb kind 3) refl p0 p1 q

    go1 : (t : Bool) → eqb kind 1 ≡ t → eqb kind 0 ≡ false → B kind
    go1 true q p0 = rw (eqb-true kind 1 q) b1
    go1 false q p0 = go2 (eqb kind 2) refl p0 q

    go0 : (t : Bool) → eqb kind 0 ≡ t → B kind
    go0 true q = rw (eqb-true kind 0 q) b0
    go0 false q = go1 (eqb kind 1) refl q

-- a test that what is malformed does not pass, of bytes that may be malformed
module _ (test : Entry → Bool) (fails : test Malformed ≡ false) where
  passes : (z : Bool) (x : Entry) → test x ≡ true → z ≡ test (refuse z Malformed x)
  unfolding refuse
  passes true x h = sym h
  passes false x h = sym fails

  passes-not : (z : Bool) (x : Entry) → test x ≡ false → false ≡ test (refuse z Malformed x)
  unfolding refuse
  passes-not true x h = sym h
  passes-not false x h = sym fails

module _ (n c d e : ℕ) where
  pub blank-bytes : (kind : ℕ) → (eqb kind 0 && zeros c d e) ≡ is_blank (entry_of n kind c d e)
  unfolding entry_of
  blank-bytes =
      by_kind (λ kind. (eqb kind 0 && zeros c d e) ≡ is_blank (entry_of n kind c d e))
      (passes is_blank refl (zeros c d e) Blank refl)
      (passes-not is_blank refl (zeros c d e) Int refl)
      (passes-not is_blank refl (zeros c d e) Top refl)
      (passes-not is_blank refl (pair_ok n c d e) (Ref c d e) refl)
      (passes-not is_blank refl (nullable_ok n c d e) (Nullable c) refl)
      (λ kind p0 p1 p2 p3 p4. rw (p0, p1, p2, p3, p4))

  pub int-bytes : (kind : ℕ) → (eqb kind 1 && zeros c d e) ≡ is_int (entry_of n kind c d e)
  unfolding entry_of
  int-bytes =
      by_kind (λ kind. (eqb kind 1 && zeros c d e) ≡ is_int (entry_of n kind c d e))
      (passes-not is_int refl (zeros c d e) Blank refl)
      (passes is_int refl (zeros c d e) Int refl)
      (passes-not is_int refl (zeros c d e) Top refl)
      (passes-not is_int refl (pair_ok n c d e) (Ref c d e) refl)
      (passes-not is_int refl (nullable_ok n c d e) (Nullable c) refl)
      (λ kind p0 p1 p2 p3 p4. rw (p0, p1, p2, p3, p4))

  pub top-bytes : (kind : ℕ) → (eqb kind 2 && zeros c d e) ≡ is_top (entry_of n kind c d e)
  unfolding entry_of
  top-bytes =
      by_kind (λ kind. (eqb kind 2 && zeros c d e) ≡ is_top (entry_of n kind c d e))
      (passes-not is_top refl (zeros c d e) Blank refl)
      (passes-not is_top refl (zeros c d e) Int refl)
      (passes is_top refl (zeros c d e) Top refl)
      (passes-not is_top refl (pair_ok n c d e) (Ref c d e) refl)
      (passes-not is_top refl (nullable_ok n c d e) (Nullable c) refl)
      (λ kind p0 p1 p2 p3 p4. rw (p0, p1, p2, p3, p4))

  pub reference-bytes : (kind : ℕ) → (eqb kind 3 && pair_ok n c d e) ≡ is_reference (entry_of n kind c d e)
  unfolding entry_of
  reference-bytes =
      by_kind (λ kind. (eqb kind 3 && pair_ok n c d e) ≡ is_reference (entry_of n kind c d e))
      (passes-not is_reference refl (zeros c d e) Blank refl)
      (passes-not is_reference refl (zeros c d e) Int refl)
      (passes-not is_reference refl (zeros c d e) Top refl)
      (passes is_reference refl (pair_ok n c d e) (Ref c d e) refl)
      (passes-not is_reference refl (nullable_ok n c d e) (Nullable c) refl)
      (λ kind p0 p1 p2 p3 p4. rw (p0, p1, p2, p3, p4))

  pub nullable-bytes : (kind : ℕ) → (eqb kind 4 && nullable_ok n c d e) ≡ is_nullable (entry_of n kind c d e)
  unfolding entry_of
  nullable-bytes =
      by_kind (λ kind. (eqb kind 4 && nullable_ok n c d e) ≡ is_nullable (entry_of n kind c d e))
      (passes-not is_nullable refl (zeros c d e) Blank refl)
      (passes-not is_nullable refl (zeros c d e) Int refl)
      (passes-not is_nullable refl (zeros c d e) Top refl)
      (passes-not is_nullable refl (pair_ok n c d e) (Ref c d e) refl)
      (passes is_nullable refl (nullable_ok n c d e) (Nullable c) refl)
      (λ kind p0 p1 p2 p3 p4. rw (p0, p1, p2, p3, p4))

  -- an entry of one kind is that of its bytes
  module _ (test : Entry → Bool) (x : Entry) (fails : test Malformed ≡ false) where
    refused-is : (z : Bool) (y : Entry) → test (refuse z Malformed y) ≡ true → (test y ≡ true → y ≡ x) → refuse z Malformed y ≡ x
    unfolding refuse
    refused-is true y h g = g h
    refused-is false y h g = never h fails

  pub reference-is : (kind : ℕ) → is_reference (entry_of n kind c d e) ≡ true → entry_of n kind c d e ≡ Ref c d e
  unfolding entry_of
  reference-is =
      by_kind (λ kind. is_reference (entry_of n kind c d e) ≡ true → entry_of n kind c d e ≡ Ref c d e)
      (λ h. refused-is is_reference (Ref c d e) refl (zeros c d e) Blank h (λ g. never g refl))
      (λ h. refused-is is_reference (Ref c d e) refl (zeros c d e) Int h (λ g. never g refl))
      (λ h. refused-is is_reference (Ref c d e) refl (zeros c d e) Top h (λ g. never g refl))
      (λ h. refused-is is_reference (Ref c d e) refl (pair_ok n c d e) (Ref c d e) h (λ g. refl))
      (λ h. refused-is is_reference (Ref c d e) refl (nullable_ok n c d e) (Nullable c) h (λ g. never g refl))
      (λ kind p0 p1 p2 p3 p4 h. never (rw (p0, p1, p2, p3, p4) at h) refl)

  pub nullable-is : (kind : ℕ) → is_nullable (entry_of n kind c d e) ≡ true → entry_of n kind c d e ≡ Nullable c
  unfolding entry_of
  nullable-is =
      by_kind (λ kind. is_nullable (entry_of n kind c d e) ≡ true → entry_of n kind c d e ≡ Nullable c)
      (λ h. refused-is is_nullable (Nullable c) refl (zeros c d e) Blank h (λ g. never g refl))
      (λ h. refused-is is_nullable (Nullable c) refl (zeros c d e) Int h (λ g. never g refl))
      (λ h. refused-is is_nullable (Nullable c) refl (zeros c d e) Top h (λ g. never g refl))
      (λ h. refused-is is_nullable (Nullable c) refl (pair_ok n c d e) (Ref c d e) h (λ g. never g refl))
      (λ h. refused-is is_nullable (Nullable c) refl (nullable_ok n c d e) (Nullable c) h (λ g. refl))
      (λ kind p0 p1 p2 p3 p4 h. never (rw (p0, p1, p2, p3, p4) at h) refl)

-- ---- the other entries
pub no-class : (x : Entry) → (is_reference x || is_nullable x) ≡ false → 0 ≡ class_of x
no-class Int h = refl
no-class Top h = refl
no-class (Ref c d e) h = never refl h
no-class (Nullable c) h = never refl h
no-class Blank h = refl
no-class Malformed h = refl

pub no-dip : (x : Entry) → is_reference x ≡ false → 0 ≡ dip_of x
no-dip Int h = refl
no-dip Top h = refl
no-dip (Ref c d e) h = never refl h
no-dip (Nullable c) h = refl
no-dip Blank h = refl
no-dip Malformed h = refl

pub no_end_lem : (x : Entry) → is_reference x ≡ false → 64 ≡ end_of x
no_end_lem Int h = refl
no_end_lem Top h = refl
no_end_lem (Ref c d e) h = never refl h
no_end_lem (Nullable c) h = refl
no_end_lem Blank h = refl
no_end_lem Malformed h = refl

-- a type by its kinds
pub type-told : (x : Entry) → (((is_int x || is_top x) || is_reference x) || is_nullable x) ≡ is_type x
type-told Int = refl
type-told Top = refl
type-told (Ref c d e) = refl
type-told (Nullable c) = refl
type-told Blank = refl
type-told Malformed = refl

-- the kind by one test after another
pub kind-told : (x : Entry) → cond (is_reference x) 3 (cond (is_int x) 1 (cond (is_top x) 2 (cond (is_nullable x) 4 (cond (is_blank x) 0 5)))) ≡ kind_of x
kind-told Int = refl
kind-told Top = refl
kind-told (Ref c d e) = refl
kind-told (Nullable c) = refl
kind-told Blank = refl
kind-told Malformed = refl

-- ---- what Int, and a class with (0,0), come to
pub int-compared : (y : Entry) → refuse (is_int y || is_top y) 1 0 ≡ compare Int (want y)
unfolding compare takes refuse
int-compared Int = refl
int-compared Top = refl
int-compared (Ref c d e) = refl
int-compared (Nullable c) = refl
int-compared Blank = refl
int-compared Malformed = refl

same_class : (b c : ℕ) → eqb b c ≡ eqb c b
same_class b c = go (eqb b c) refl
  where
    go : (t : Bool) → eqb b c ≡ t → t ≡ eqb c b
    go true q = sym (eq-eqb c b (sym (eqb-true b c q)))
    go false q = sym (ne_eqb c b (λ h. eqb-false b c q (sym h)))

pub made-taken : (c : ℕ) (y : Entry) → (is_top y || may_be_of c y) ≡ takes y (Ref c 0 64)
unfolding takes
made-taken c Int = refl
made-taken c Top = refl
made-taken c (Ref b d e) = same_class b c
made-taken c (Nullable b) = same_class b c
made-taken c Blank = refl
made-taken c Malformed = refl

-- .. and a class that may be null
pub nullable-compared : (c : ℕ) (y : Entry) → refuse (is_top y || (is_nullable y && eqb (class_of y) c)) 1 0 ≡ compare (Nullable c) (want y)
unfolding compare takes refuse
nullable-compared c Int = refl
nullable-compared c Top = refl
nullable-compared c (Ref b d e) = refl
nullable-compared c (Nullable b) = go (eqb b c) (same_class b c)
  where
    go : (t : Bool) → t ≡ eqb c b → ◌≡◌ {A = ℕ} (cond t 0 1) (cond (eqb c b) 0 1)
    go t q = rw q
nullable-compared c Blank = refl
nullable-compared c Malformed = refl

-- THEOREM: a comparison gives 0 to 3, and of a type against Top 0 or 3 alone
pub compare-few : (x : Entry) (w : Want) → compare x w ≤ 3
unfolding compare refuse
compare-few x w = go (w.kind x) (leb w.dip (dip_of x)) (leb w.end (end_of x))
  where
    go : (a b c : Bool) → cond a (cond b (cond c 0 3) 2) 1 ≤ 3
    go true true true = omega arith
    go true true false = omega arith
    go true false c = omega arith
    go false b c = omega arith

pub compare-top : (x : Entry) → is_type x ≡ true → compare x (want Top) ≡ cond (leb no_end (end_of x)) 0 3
unfolding compare takes refuse
compare-top x h = rw (h, le-leb 0 (dip_of x) (omega arith))

-- equal entries fit: most stay as they are from row to row
takes-itself : (x : Entry) → takes x x ≡ true
unfolding takes
takes-itself Int = refl
takes-itself Top = refl
takes-itself (Ref c d e) = rw (eq-eqb c c refl)
takes-itself (Nullable c) = rw (eq-eqb c c refl)
takes-itself Blank = refl
takes-itself Malformed = refl

pub fits-itself : (x : Entry) → compare x (want x) ≡ 0
unfolding compare refuse
fits-itself x = rw (takes-itself x, le-leb (dip_of x) (dip_of x) (omega arith), le-leb (end_of x) (end_of x) (omega arith))
