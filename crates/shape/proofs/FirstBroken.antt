-- `shape_verdict` judges the places of 1 to 8, pair bytes aside; and the code's searches are of parts of their list.
use mathlib.Core.List.{List, [], ◌∷◌, map}
use mathlib.Core.Path.{◌≡◌, refl, ap, ◌∙◌}
use mathlib.Core.Logic.{⊎_elim}
use mathlib.Core.Bool.{true, false}
use Prim.Native.Nat.{ℕ, ◌+◌, ◌-◌, ◌<◌}
use native.Mathlib.Omega.{arith}
use lib.Dec.{eqb}
use borrow.Author.Tests.{eqb-true, not-false}
use Rattle.ground.specs.Chain.{or_then}
use Rattle.ground.specs.Lists.{each, In, first_broken}
use Rattle.ground.proofs.Lists.{in-append, in_left, in_right, in-each, each_in, in-numbered, numbered-in, in_map, map-in, first-append, first-map}
use Rattle.bundle.specs.Container.{classes, class_at, part_of}
use Rattle.bundle.specs.Program.{method_of, method_at, program_of}
use Rattle.verdicts.specs.declared.Verdict.{Verdict}
use Rattle.verdicts.specs.Verdicts.{verdict, is_bad}
use Rattle.structure.specs.Loops.{and_then, ascending}
use Rattle.structure.specs.Structure.{structure_of}
use Rattle.structure.specs.Places.{structure_places}
use Rattle.structure.proofs.Judges.{judges, search-last, search-each}
use Rattle.structure.proofs.FirstBroken.{structure-judges}
use Rattle.structure.proofs.FirstBroken as structure
use Rattle.verifier.specs.Places.{Place, structural, form, first, rule, form_places, drawn}
use Rattle.shape.specs.Shape.{shape_places, shape_holds, shape_verdict, ShapeWithin, ShapeJudges, ShapeAgrees}
use Rattle.shape.specs.Loops.{searched, shaped_at, shaped_of}

bad : (b : List ℕ) (p : Place) → is_bad (drawn b p) ≡ true
bad b (structural p) = structure.bad p
bad b (form c l) = refl
bad b (first c) = refl
bad b (rule c l) = refl

module _ (b : List ℕ) where
  -- the two parts of the list
  abbrev Structural : List Place
  Structural = map structural (structure_places b)

  abbrev Forms : List Place
  Forms = each (classes b) (form_places b)

  listed : (p : Place) → ShapeWithin b p → In p (shape_places b)
  unfolding In program_of method_at method_of
  listed (structural p) w = in_left _ Structural _ (map-in structural p (structure_places b) ((structure-judges b).listed p w))
  listed (form c l) w =
      in_right _ Structural _ (each_in _ _ (form_places b) c w.class_known
      (numbered-in _ _ (λ i. form c (i + 1)) (l - 1) (omega (arith, w.first, w.last)) (ap (form c) (omega (arith, w.first)))))
  listed (first c) w = absurd w
  listed (rule c l) w = absurd w

  form-within : (p : Place) (c : ℕ) → c < classes b → In p (form_places b c) → ShapeWithin b p
  unfolding program_of method_at method_of
  form-within p c l h =
      let i = in-numbered p (class_at b c).code (λ i. form c (i + 1)) h in
      rw i.2 (record { class_known = l; first = omega arith; last = omega (arith, i.1) })

  within : (p : Place) → In p (shape_places b) → ShapeWithin b p
  within p h =
      ⊎_elim (λ k. let q = in_map structural p (structure_places b) k in rw q.1 ((structure-judges b).within q.0 q.2))
      (λ k. let c = in-each p (classes b) (form_places b) k in form-within p c.0 c.1 c.2) (in-append p Structural Forms h)

-- THE ORDER: a verdict other than 0 is the first broken place's; 0 exactly where all hold, pair bytes aside
pub shape-judges : ShapeJudges
unfolding shape_verdict
shape-judges b = judges (shape_holds b) (drawn b) (bad b) (shape_places b) (ShapeWithin b) (classes b) (listed b) (within b)

module _ (b : List ℕ) where
  pub shape-zero : is_bad (shape_verdict b) ≡ false → (p : Place) → ShapeWithin b p → shape_holds b p ≡ true
  shape-zero e = (shape-judges b).zero (eqb-true _ 0 (not-false (eqb (shape_verdict b).number 0) e))

  -- ---- the parts that the code searches, one after another
  pub shape-parts : shape_verdict b ≡ and_then (structure_of b) (and_then (searched b (each (classes b) (form_places b))) (verdict 0 (classes b) 0))
  unfolding shape_verdict structure_of
  shape-parts =
      first-append (shape_holds b) (drawn b) is_bad (λ p _. bad b p) accepted accepted refl (Structural b) (Forms b)
      ∙ rw (first-map (shape_holds b) (drawn b) structural accepted (structure_places b), search-last (shape_holds b) (drawn b) (bad b) accepted (Forms b))
    where
      accepted : Verdict
      accepted = verdict 0 (classes b) 0

  pub by-class : (f : ℕ → List Place) → searched b (each (classes b) f) ≡ ascending (classes b) (λ c. searched b (f c))
  by-class f = search-each (shape_holds b) (drawn b) (bad b) (classes b) f

  pub form-parts : (c : ℕ) → searched b (form_places b c) ≡ shaped_of (classes b) c (class_at b c) (part_of b (class_at b c))
  unfolding shaped_at first_broken program_of method_at method_of
  form-parts c = search-each (shape_holds b) (drawn b) (bad b) (class_at b c).code (λ i. form c (i + 1) ∷ [])

-- what the code searches, as its parts
pub ruleset searching = (shape-parts, by-class, form-parts)

-- 1 to 7 are the verifier's
pub shape-agrees : ShapeAgrees
unfolding or_then
shape-agrees b e = shape-parts b ∙ rw e
