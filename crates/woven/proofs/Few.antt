-- Which numbers the gate gives: 2, 5, 9, 10 and 23 are none of them, since trailer, records and directory stand where they must.
use mathlib.Core.List.{List, [], ◌∷◌}
use mathlib.Core.Path.{◌≡◌, refl}
use mathlib.Core.Logic.{inl, inr}
use mathlib.Core.Bool.{Bool, true, false, ◌||◌}
use Prim.Native.Nat.{ℕ, ◌+◌, ◌<◌, ◌≤◌}
use native.Mathlib.Omega.{arith}
use lib.Dec.{leb, eqb}
use borrow.Author.Tests.{le-leb, eq-eqb, eqb-true}
use Rattle.ground.specs.Chain.{refuse}
use Rattle.ground.specs.Lists.{In}
use Rattle.ground.proofs.Bools.{never, and_both, or-true}
use Rattle.ground.proofs.Bounded.{all-intro}
use Rattle.ground.proofs.Lists.{first-in}
use Rattle.bundle.specs.Container.{classes, class_at, size, record_fits}
use Rattle.verdicts.specs.declared.Verdict.{Verdict}
use Rattle.structure.specs.Conditions.{trailer_ok}
use Rattle.structure.specs.Places.{whole, trailer, directory, limits, extent, descriptors, instruction}
use Rattle.verifier.specs.Places.{Place, structural, form, first, rule, drawn}
use Rattle.shape.specs.Shape.{shape_holds, shape_places, ShapeWithin}
use Rattle.shape.specs.Apart.{apart, apart_from, lower_apart, directory_apart, class_apart, all_apart}
use Rattle.shape.proofs.FirstBroken.{shape-judges}
use Rattle.pairs.specs.Answer.{Answer, malformed, shared, none, filled}
use Rattle.laying.specs.Given.{Given, numbers_at}
use Rattle.laying.specs.Lengths.{records_before}
use Rattle.laying.specs.Laid.{laid}
use Rattle.laying.specs.Loops.{Measured}
use Rattle.laying.proofs.Lengths.{sum-part, records-part}
use Rattle.gate.specs.Gate.{refusal_of, unlaid, refused, short, written}
use Rattle.gate.proofs.Answers.{all-measured}
use Rattle.woven.specs.Woven.{placed, outcomes, Few}
use Rattle.woven.proofs.Standing.{classes-are, directory-is, length-is, mark-first, mark-last, class-is}
use Rattle.woven.proofs.Woven as woven

-- a test, so that a number's place in the list does not matter
is_in : ℕ → List ℕ → Bool
is_in n [] = false
is_in n (m ∷ l) = eqb n m || is_in n l

found : (n : ℕ) (l : List ℕ) → is_in n l ≡ true → In n l
unfolding In is_in
found n [] e = never e refl
found n (m ∷ l) e = go (eqb n m) refl (λ k. found n l k)
  where
    go : (a : Bool) → eqb n m ≡ a → (is_in n l ≡ true → In n l) → In n (m ∷ l)
    go true q f = inl (eqb-true n m q)
    go false q f = inr (f (rw q at e))

abbrev Among : ℕ → Type 0
Among n = In n outcomes

among : (n : ℕ) → is_in n outcomes ≡ true → Among n
among n e = found n outcomes e

early : (a b d : Bool) → Among (refuse a 27 (refuse b 1 (refuse d 3 0)))
unfolding refuse is_in
early false b d = among 27 refl
early true false d = among 1 refl
early true true false = among 3 refl
early true true true = among 0 refl

module _ (g : Given) (z : refusal_of g ≡ 0) where
  m : Measured g
  m = all-measured g z

  abbrev b : List ℕ
  b = laid g

  -- never 2
  trailer-ok : trailer_ok b ≡ true
  unfolding trailer_ok
  trailer-ok =
      rw (
        eq-eqb _ _ (mark-first m),
        eq-eqb _ _ (mark-last m),
        eq-eqb _ _ (length-is m),
      )

  module _ (c : ℕ) (l : c < g.classes) where
    -- never 5
    fits : record_fits b (class_at b c) ≡ true
    unfolding record_fits
    fits = rw (class-is m c l) (le-leb _ _ (woven.extent g m c l))

    -- before the directory, and behind every lower class's record
    before-directory : (placed g.directory c).offset + size (placed g.directory c) ≤ records_before g.directory g.classes
    before-directory = omega (arith, woven.size_is g m c l, woven.offset-is g m c l, records-part m c l)

    behind-lower : (e : ℕ) → e < c → records_before g.directory e + size (numbers_at g.directory e) ≤ records_before g.directory c
    unfolding records_before
    behind-lower e h = sum-part (λ i. size (numbers_at g.directory i)) c e h

  lower : (c e : ℕ) → c < g.classes → e < c → apart_from b (class_at b c) e ≡ true
  unfolding apart_from apart
  lower c e l h =
      let k : e < g.classes = omega arith in
      rw (class-is m c l, class-is m e k)
      (rw (le-leb ((placed g.directory e).offset + size (placed g.directory e)) (placed g.directory c).offset (omega (arith, woven.size_is g m e k, woven.offset-is g m e k, woven.offset-is g m c l, behind-lower c l e h)))
      (or-true (leb ((placed g.directory c).offset + size (placed g.directory c)) (placed g.directory e).offset)))

  class-apart : (c : ℕ) → c < g.classes → class_apart b c ≡ true
  unfolding class_apart directory_apart lower_apart apart
  class-apart c l =
      and_both (directory_apart b (class_at b c)) (lower_apart b (class_at b c) c) (rw (class-is m c l, directory-is m, le-leb _ _ (before-directory c l)))
      (all-intro (apart_from b (class_at b c)) c (λ e h. lower c e l h))

  -- never 23
  all_apart_lem : all_apart b ≡ true
  unfolding all_apart
  all_apart_lem = all-intro (class_apart b) (classes b) (λ c l. class-apart c (rw (classes-are m) at l))

  place : (q : Place) → shape_holds b q ≡ false → ShapeWithin b q → Among (drawn b q).number
  unfolding is_in
  place (structural whole) h w = among 1 refl
  place (structural trailer) h w = never trailer-ok h
  place (structural directory) h w = among 3 refl
  place (structural (limits c)) h w = among 4 refl
  place (structural (extent c)) h w = never (fits c (rw (classes-are m) at w)) h
  place (structural (descriptors c)) h w = among 6 refl
  place (structural (instruction c a)) h w = among 7 refl
  place (form c a) h w = among 8 refl
  place (first c) h w = absurd w
  place (rule c a) h w = absurd w

  answer : (v : Verdict) (x : List ℕ) → Answer b v x → Among v.number
  unfolding is_in
  answer _ _ (malformed p) =
      let n = (shape-judges b).first p in
      rw n.is (place n.place n.first.broken ((shape-judges b).within n.place (first-in (shape_holds b) (shape_places b) n.place n.first)))
  answer _ _ (shared p q) = never all_apart_lem q
  answer _ _ (none r f) = among 22 refl
  answer _ _ (filled r f) = among 0 refl

-- THEOREM
pub few : Few
unfolding refusal_of is_in
few g out _ _ _ (unlaid p) = early _ _ _
few g out _ _ _ (refused {v} {x} e a i) = answer g e v x a
few g out _ _ _ (short e a i k) = among 24 refl
few g out _ _ _ (written {v} {x} e a i k) = answer g e v x a
