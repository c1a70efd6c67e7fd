-- Two entries that differ in their pairs only, the first below the second. Where the upper one meets what is wanted above, it has what is asked below (`-forced`); and where the lower one has it too, that one meets what is wanted below (`-holds`).
use mathlib.Core.Path.{◌≡◌, refl}
use mathlib.Core.Bool.{Bool, true, false, cond, false≢true}
use Prim.Native.Nat.{ℕ, ◌≤◌}
use native.Mathlib.Nat.{le_refl}
use native.Mathlib.Omega.{arith}
use lib.Dec.{leb}
use borrow.Author.Tests.{leb-true, leb-false, le-leb}
use Rattle.ground.proofs.Bools.{and-fst, and-snd, and_both, never}
use Rattle.entries.specs.Entries.{Entry, Int, Top, Ref, Nullable, Blank, Malformed, no_end, dip_of, end_of, kind_of, class_of, is_int, is_top, is_reference, is_nullable, is_type, is_of, may_be_of, matches, matches_field}
use Rattle.entries.specs.Fits.{Want, may_go, takes, want, want_entered, want_exited, want_both}
use Rattle.rules.proofs.Held.{Meets}
use Rattle.needs.specs.declared.Pair.{Pair}
use Rattle.std.specs.Prelude.{max}
use Rattle.std.proofs.Math.Nat.{max-eq_left, max-eq_right}
use Rattle.needs.specs.Needs.{asked, gone, greater, both, or_null}
use Rattle.needs.specs.Exactly.{Under, same, less, Has}

module _ {x y : Entry} (u : Under x y) where
  under-dip : dip_of x ≤ dip_of y
  under-dip = go u
    where
      go : {x y : Entry} → Under x y → dip_of x ≤ dip_of y
      go same = le_refl _
      go (less p q) = p

  under-end : end_of x ≤ end_of y
  under-end = go u
    where
      go : {x y : Entry} → Under x y → end_of x ≤ end_of y
      go same = le_refl _
      go (less p q) = q

  under-kind : kind_of x ≡ kind_of y
  under-kind = go u
    where
      go : {x y : Entry} → Under x y → kind_of x ≡ kind_of y
      go same = refl
      go (less p q) = refl

  pub under-class : class_of x ≡ class_of y
  under-class = go u
    where
      go : {x y : Entry} → Under x y → class_of x ≡ class_of y
      go same = refl
      go (less p q) = refl

  -- ---- tests that read no pair
  pub int-under : is_int y ≡ true → is_int x ≡ true
  int-under h = rw under-kind h

  pub top-under : is_top y ≡ true → is_top x ≡ true
  top-under h = rw under-kind h

  pub nullable-under : is_nullable x ≡ is_nullable y
  nullable-under = rw under-kind

  pub reference-under : is_reference x ≡ is_reference y
  reference-under = rw under-kind

  pub of-under : (c : ℕ) → is_of c y ≡ true → is_of c x ≡ true
  of-under c h = rw (under-kind, under-class) h

  pub may-be-under : (c : ℕ) → may_be_of c y ≡ true → may_be_of c x ≡ true
  may-be-under c h = rw (under-kind, under-class) h

  pub matches-under : (d : ℕ) → matches d y ≡ true → matches d x ≡ true
  unfolding matches
  matches-under d h = rw (under-kind, under-class) h

  pub field-under : (d : ℕ) → matches_field d y ≡ true → matches_field d x ≡ true
  unfolding matches_field
  field-under d h = rw (under-kind, under-class) h

takes-under : {x x' y y' : Entry} → Under x x' → Under y y' → takes y' x' ≡ true → takes y x ≡ true
unfolding takes
takes-under u v h = rw (under-kind u, under-class u, under-kind v, under-class v) h

-- what is no reference has no pair to differ in
pub plain-under : {x x' : Entry} → Under x x' → is_reference x' ≡ false → x ≡ x'
plain-under same h = refl
plain-under (less p q) h = never refl h

-- ---- the greater of two
pub max-greater : (a b : ℕ) → max a b ≡ greater a b
unfolding greater
max-greater a b = go (leb a b) refl
  where
    go : (t : Bool) → leb a b ≡ t → max a b ≡ cond t b a
    go true e = max-eq_right (leb-true a b e)
    go false e = let l : b ≤ a = omega (arith, leb-false a b e) in max-eq_left l

greater-left : (a b n : ℕ) → greater a b ≤ n → a ≤ n
greater-left a b n h = omega (arith, max-greater a b)

greater-right : (a b n : ℕ) → greater a b ≤ n → b ≤ n
greater-right a b n h = omega (arith, max-greater a b)

pub greater-least : (a b n : ℕ) → a ≤ n → b ≤ n → greater a b ≤ n
greater-least a b n p q = omega (arith, max-greater a b)

module _ (p q : Pair) (x : Entry) where
  pub both-has : Has p x → Has q x → Has (both p q) x
  unfolding both
  both-has m k = record { dip = greater-least _ _ _ m.dip k.dip; end = greater-least _ _ _ m.end k.end }

  pub left-has : Has (both p q) x → Has p x
  unfolding both
  left-has m = record { dip = greater-left _ _ _ m.dip; end = greater-left _ _ _ m.end }

  pub right-has : Has (both p q) x → Has q x
  unfolding both
  right-has m = record { dip = greater-right _ _ _ m.dip; end = greater-right _ _ _ m.end }

  -- where e may be null, p is asked besides q
  module _ (e : Entry) where
    pub null_has : (is_nullable e ≡ true → Has p x) → Has q x → Has (or_null e p q) x
    unfolding or_null
    null_has m k = go (is_nullable e) refl
      where
        go : (t : Bool) → is_nullable e ≡ t → Has (cond t (both p q) q) x
        go true h = both-has (m h) k
        go false h = k

    pub null-left : Has (or_null e p q) x → is_nullable e ≡ true → Has p x
    unfolding or_null
    null-left m h = left-has (rw h at m)

    pub null-right : Has (or_null e p q) x → Has q x
    unfolding or_null
    null-right m = go (is_nullable e) m
      where
        go : (t : Bool) → Has (cond t (both p q) q) x → Has q x
        go true m = right-has m
        go false m = m

-- ---- what is wanted below is no more than what is wanted above
pub record Lower (w w' : Want) : Type 0 where
  pub kind : {x x' : Entry} → Under x x' → w'.kind x' ≡ true → w.kind x ≡ true
  pub dip : w.dip ≤ w'.dip
  pub end : w.end ≤ w'.end

pub want-lower : {y y' : Entry} → Under y y' → Lower (want y) (want y')
want-lower v = record { kind = λ u h. takes-under u v h; dip = under-dip v; end = under-end v }

pub entered-lower : {y y' : Entry} → Under y y' → Lower (want_entered y) (want_entered y')
entered-lower v = record { kind = λ u h. takes-under u v h; dip = omega (arith, under-dip v); end = omega (arith, under-end v) }

pub exited-lower : {y y' : Entry} → Under y y' → Lower (want_exited y) (want_exited y')
exited-lower v = record { kind = λ u h. takes-under u v h; dip = omega (arith, under-dip v); end = omega (arith, under-end v) }

pub both-lower : {y y' z z' : Entry} → Under y y' → Under z z' → Lower (want_both y z) (want_both y' z')
both-lower {y} {y'} {z} {z'} v w =
    record {
      kind = λ {x} {x'} u h. and_both _ _ (takes-under u v (and-fst (takes y' x') _ h)) (takes-under u w (and-snd (takes y' x') _ h));
      dip = omega (arith, under-dip v, under-dip w);
      end = omega (arith, under-end v, under-end w);
    }

pub meets-forced : {x' : Entry} {w w' : Want} → Lower w w' → Meets x' w' → Has (asked w) x'
meets-forced l m = record { dip = omega (arith, l.dip, m.dip); end = omega (arith, l.end, m.end) }

pub meets-holds : {x x' : Entry} {w w' : Want} → Lower w w' → Under x x' → Meets x' w' → Has (asked w) x → Meets x w
meets-holds l u m h = record { kind = l.kind u m.kind; dip = h.dip; end = h.end }

-- what is the same above and below
pub meets-same : {x : Entry} {w w' : Want} → Lower w w' → Meets x w' → Meets x w
meets-same l m = meets-holds l same m (meets-forced l m)

-- ---- may go
pub goes-forced : (x' : Entry) → may_go x' ≡ true → Has gone x'
goes-forced x' h = record { dip = omega arith; end = leb-true no_end (end_of x') (and-snd (is_type x') _ h) }

pub goes-holds : {x x' : Entry} → Under x x' → may_go x' ≡ true → Has gone x → may_go x ≡ true
goes-holds {x} {x'} u h m =
    let t : is_type x ≡ true = rw (under-kind u) (and-fst (is_type x') _ h) in
    and_both _ _ t (le-leb no_end (end_of x) m.end)

-- ---- what has no pair weighs (0, 0)
pub int-has : (x : Entry) → is_int x ≡ true → Has gone x
int-has Int h = record { dip = omega arith; end = omega arith }
int-has Top h = absurd (false≢true h)
int-has (Ref c d e) h = absurd (false≢true h)
int-has (Nullable c) h = absurd (false≢true h)
int-has Blank h = absurd (false≢true h)
int-has Malformed h = absurd (false≢true h)

pub null-weight : (x : Entry) → is_nullable x ≡ true → (dip_of x ≡ 0) × (end_of x ≡ no_end)
null-weight Int h = absurd (false≢true h)
null-weight Top h = absurd (false≢true h)
null-weight (Ref c d e) h = absurd (false≢true h)
null-weight (Nullable c) h = (refl, refl)
null-weight Blank h = absurd (false≢true h)
null-weight Malformed h = absurd (false≢true h)
