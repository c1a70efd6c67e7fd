-- THEOREM: the verdicts of the profile agree with those of `verify` up to the first 25.
use mathlib.Core.List.{List, [], ◌∷◌}
use mathlib.Core.Path.{◌≡◌, refl, ap}
use mathlib.Core.Logic.{◌≢◌}
use mathlib.Core.Bool.{Bool, true, false}
use Prim.Native.Nat.{ℕ}
use native.Mathlib.Omega.{arith}
use lib.ListN.{length}
use borrow.Author.Tests.{eq-eqb, ne_eqb}
use Rattle.ground.specs.Chain.{refuse}
use Rattle.ground.specs.Lists.{All, first_broken}
use Rattle.ground.proofs.Chain.{refused, went_on_lem}
use Rattle.bundle.specs.Container.{classes}
use Rattle.verdicts.specs.declared.Verdict.{Verdict}
use Rattle.verdicts.specs.Verdicts.{verdict}
use Rattle.structure.specs.Places.{whole, trailer, directory, limits, extent, descriptors, instruction}
use Rattle.rows.specs.Typed.{typed_of}
use Rattle.verifier.specs.Places as verifier
use Rattle.verifier.specs.Places.{structural, form, first, rule}
use Rattle.verifier.specs.Verdict.{verdict_of}
use Rattle.order.specs.Order.{eight_levels, order_at}
use Rattle.order.specs.Places.{extended, holds, drawn}
use Rattle.order.specs.Verdict.{ordered_verdict_of, Upto, AgreesUpto25}

-- one refusal before two searches
same_after : (ok : Bool) (v x y : Verdict) → (x.number ≢ 25 → x ≡ y) → (refuse ok v x).number ≢ 25 → refuse ok v x ≡ refuse ok v y
unfolding refuse
same_after true v x y h n = h n
same_after false v x y h n = refl

-- one more in the first
same-but : (ok : Bool) (v x y : Verdict) → v.number ≡ 25 → (x.number ≢ 25 → x ≡ y) → (refuse ok v x).number ≢ 25 → refuse ok v x ≡ y
unfolding refuse
same-but true v x y e h n = h n
same-but false v x y e h n = absurd (n e)

module _ (b levels : List ℕ) (none : Verdict) where
  abbrev ordered : List verifier.Place → Verdict
  ordered l = first_broken (holds b levels) (drawn b) none (extended l)

  abbrev plain : List verifier.Place → Verdict
  plain l = first_broken (verifier.holds b) (verifier.drawn b) none l

  same : (l : List verifier.Place) → (ordered l).number ≢ 25 → ordered l ≡ plain l
  unfolding extended first_broken
  same [] n = refl
  same (structural p ∷ l) n = same_after _ _ (ordered l) (plain l) (same l) n
  same (form c a ∷ l) n = same_after _ _ (ordered l) (plain l) (same l) n
  same (first c ∷ l) n = same_after _ _ (ordered l) (plain l) (same l) n
  same (rule c a ∷ l) n =
      same_after _ _ (refuse (order_at levels (typed_of b) c a) (verdict 25 c a) (ordered l)) (plain l)
      (same-but _ (verdict 25 c a) (ordered l) (plain l) refl (same l)) n

  never-25 : (p : verifier.Place) → (verifier.drawn b p).number ≢ 25
  never-25 (structural whole) = omega arith
  never-25 (structural trailer) = omega arith
  never-25 (structural directory) = omega arith
  never-25 (structural (limits c)) = omega arith
  never-25 (structural (extent c)) = omega arith
  never-25 (structural (descriptors c)) = omega arith
  never-25 (structural (instruction c a)) = omega arith
  never-25 (form c a) = omega arith
  never-25 (first c) = omega arith
  never-25 (rule c a) = omega arith

  abbrev Found : List verifier.Place → Verdict → Type 0
  Found l v = Upto b l v.class v.address

  -- one more place, which holds
  further : (p : verifier.Place) (l : List verifier.Place) (v : Verdict) → verifier.holds b p ≡ true → Found l v → Found (p ∷ l) v
  unfolding All
  further p l v h f =
      record {
        front = p ∷ f.front;
        back = f.back;
        whole = ap (λ (m : List verifier.Place). p ∷ m) f.whole;
        before = (h, f.before);
        there = f.there;
      }

  passes : (p : verifier.Place) (l : List verifier.Place) (ok : Bool) → verifier.holds b p ≡ ok → (x : Verdict) → (x.number ≡ 25 → Found l x)
      → (refuse ok (verifier.drawn b p) x).number ≡ 25 → Found (p ∷ l) (refuse ok (verifier.drawn b p) x)
  unfolding refuse
  passes p l true e x h q = further p l x e (h q)
  passes p l false e x h q = absurd (never-25 p q)

  breaks : (c a : ℕ) (l : List verifier.Place) (first : Bool) → verifier.holds b (rule c a) ≡ first → (ok : Bool) (x : Verdict) → (x.number ≡ 25 → Found l x)
      → (refuse first (verifier.drawn b (rule c a)) (refuse ok (verdict 25 c a) x)).number ≡ 25
      → Found (rule c a ∷ l) (refuse first (verifier.drawn b (rule c a)) (refuse ok (verdict 25 c a) x))
  unfolding refuse All
  breaks c a l false e ok x h q = absurd (never-25 (rule c a) q)
  breaks c a l true e true x h q = further (rule c a) l x e (h q)
  breaks c a l true e false x h q = record { front = []; back = l; whole = refl; before = tt; there = e }

  found : none.number ≢ 25 → (l : List verifier.Place) → (ordered l).number ≡ 25 → Found l (ordered l)
  unfolding extended first_broken
  found z [] q = absurd (z q)
  found z (structural p ∷ l) q = passes (structural p) l _ refl (ordered l) (found z l) q
  found z (form c a ∷ l) q = passes (form c a) l _ refl (ordered l) (found z l) q
  found z (first c ∷ l) q = passes (first c) l _ refl (ordered l) (found z l) q
  found z (rule c a ∷ l) q = breaks c a l _ refl (order_at levels (typed_of b) c a) (ordered l) (found z l) q

module _ (b levels : List ℕ) where
  abbrev searched : Verdict
  searched = ordered b levels (verdict 0 (classes b) 0) (verifier.places b)

  not_eight : length levels ≢ 8 → ordered_verdict_of b levels ≡ verdict 26 0 0
  unfolding ordered_verdict_of first_broken
  not_eight n = refused (verdict 26 0 0) searched (ne_eqb (length levels) 8 n)

  eight : length levels ≡ 8 → ordered_verdict_of b levels ≡ searched
  unfolding ordered_verdict_of first_broken
  eight e = went_on_lem (verdict 26 0 0) searched (eq-eqb (length levels) 8 e)

  other : length levels ≡ 8 → (ordered_verdict_of b levels).number ≢ 25 → ordered_verdict_of b levels ≡ verdict_of b
  unfolding verdict_of
  other e n = rw (eight e) (same b levels (verdict 0 (classes b) 0) (verifier.places b) (rw (eight e) at n))

  first_25 : (ordered_verdict_of b levels).number ≡ 25 → Upto b (verifier.places b) (ordered_verdict_of b levels).class (ordered_verdict_of b levels).address
  unfolding ordered_verdict_of first_broken refuse
  first_25 q = go (eight_levels levels) q
    where
      go : (ok : Bool) → (refuse ok (verdict 26 0 0) searched).number ≡ 25
          → Upto b (verifier.places b) (refuse ok (verdict 26 0 0) searched).class (refuse ok (verdict 26 0 0) searched).address
      go true e = found b levels (verdict 0 (classes b) 0) (omega arith) (verifier.places b) e
      go false e = absurd (omega arith)

-- THEOREM
pub agrees : AgreesUpto25
agrees b levels = record { not_eight = not_eight b levels; other = other b levels; first_25 = first_25 b levels }
