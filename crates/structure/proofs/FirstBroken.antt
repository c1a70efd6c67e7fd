-- `structure_of` judges the places of 1 to 7; and the code's searches are of parts of their list.
use mathlib.Core.List.{List, [], ◌∷◌}
use mathlib.Core.Path.{◌≡◌, refl, ap, ◌∙◌}
use mathlib.Core.Logic.{inl, inr, ⊎_elim}
use mathlib.Core.Bool.{true}
use Prim.Native.Nat.{ℕ, ◌+◌, ◌-◌, ◌<◌}
use native.Mathlib.Omega.{arith}
use Rattle.ground.specs.Lists.{each, In, first_broken}
use Rattle.ground.proofs.Chain.{then-stop}
use Rattle.ground.proofs.Lists.{in-append, in_left, in_right, in-each, each_in, in-numbered, numbered-in}
use Rattle.bundle.specs.Container.{classes, class_at, part_of}
use Rattle.bundle.specs.Program.{method_of, method_at, program_of}
use Rattle.verdicts.specs.declared.Verdict.{Verdict}
use Rattle.verdicts.specs.Verdicts.{verdict, is_bad, pass, Names}
use Rattle.structure.specs.Places.{Place, whole, trailer, directory, limits, extent, descriptors, instruction, Within, head_places, shape_places, layout_places, table_places, structure_places, holds, drawn}
use Rattle.structure.specs.Structure.{searched, head_of, layout_of, structure_of, StructureJudges}
use Rattle.structure.specs.Loops.{and_then, ascending, table_at, table_of}
use Rattle.structure.proofs.Judges.{judges, search-then, search-last, search-each}

pub bad : (p : Place) → is_bad (drawn p) ≡ true
bad whole = refl
bad trailer = refl
bad directory = refl
bad (limits c) = refl
bad (extent c) = refl
bad (descriptors c) = refl
bad (instruction c l) = refl

module _ (b : List ℕ) where
  listed : (p : Place) → Within b p → In p (structure_places b)
  unfolding In program_of method_at method_of
  listed whole w = inl refl
  listed trailer w = inr (inl refl)
  listed directory w = inr (inr (inl refl))
  listed (limits c) w = in_left _ (layout_places b) _ (inr (inr (inr (each_in _ _ shape_places c w (inl refl)))))
  listed (extent c) w = in_left _ (layout_places b) _ (inr (inr (inr (each_in _ _ shape_places c w (inr (inl refl))))))
  listed (descriptors c) w = in_left _ (layout_places b) _ (inr (inr (inr (each_in _ _ shape_places c w (inr (inr (inl refl)))))))
  listed (instruction c l) w =
      in_right _ (layout_places b) _ (each_in _ _ (table_places b) c w.class_known
      (numbered-in _ _ (λ i. instruction c (i + 1)) (l - 1) (omega (arith, w.first, w.last)) (ap (instruction c) (omega (arith, w.first)))))

  shape-within : (p : Place) (c : ℕ) → c < classes b → In p (shape_places c) → Within b p
  unfolding In
  shape-within p c l (inr (inr (inr x))) = elim x [ ]
  shape-within p c l (inl e) = rw e l
  shape-within p c l (inr (inl e)) = rw e l
  shape-within p c l (inr (inr (inl e))) = rw e l

  table-within : (p : Place) (c : ℕ) → c < classes b → In p (table_places b c) → Within b p
  unfolding program_of method_at method_of
  table-within p c l h =
      let i = in-numbered p (class_at b c).code (λ i. instruction c (i + 1)) h in
      rw i.2 (record { class_known = l; first = omega arith; last = omega (arith, i.1) })

  within : (p : Place) → In p (structure_places b) → Within b p
  unfolding In
  within p (inl e) = rw e tt
  within p (inr (inl e)) = rw e tt
  within p (inr (inr (inl e))) = rw e tt
  within p (inr (inr (inr h))) =
      ⊎_elim (λ k. let c = in-each p (classes b) shape_places k in shape-within p c.0 c.1 c.2)
      (λ k. let c = in-each p (classes b) (table_places b) k in table-within p c.0 c.1 c.2)
      (in-append p (each (classes b) shape_places) (each (classes b) (table_places b)) h)

-- THE ORDER: a verdict other than 0 is the first broken place's; 0 exactly where every condition of 1 to 7 holds at every place
pub structure-judges : StructureJudges
unfolding structure_of
structure-judges b = judges (holds b) drawn bad (structure_places b) (Within b) (classes b) (listed b) (within b)

module _ (b : List ℕ) where
  pub structure-first : is_bad (structure_of b) ≡ true → Names (holds b) drawn (structure_places b) (structure_of b)
  structure-first = (structure-judges b).first

  pub structure-zero : (structure_of b).number ≡ 0 → (p : Place) → Within b p → holds b p ≡ true
  structure-zero = (structure-judges b).zero

  pub zero-structure : ((p : Place) → Within b p → holds b p ≡ true) → structure_of b ≡ verdict 0 (classes b) 0
  zero-structure = (structure-judges b).only

  -- ---- the parts that the code searches, one after another
  pub layout-parts : layout_of b ≡ and_then (searched b head_places) (searched b (each (classes b) shape_places))
  unfolding layout_of
  layout-parts = search-then (holds b) drawn bad pass head_places (each (classes b) shape_places)

  pub structure-parts : structure_of b ≡ and_then (layout_of b) (and_then (searched b (each (classes b) (table_places b))) (verdict 0 (classes b) 0))
  unfolding structure_of layout_of
  structure-parts =
      search-then (holds b) drawn bad (verdict 0 (classes b) 0) (layout_places b) (each (classes b) (table_places b))
      ∙ ap (and_then (layout_of b)) (search-last (holds b) drawn bad (verdict 0 (classes b) 0) (each (classes b) (table_places b)))

  -- what `head` finds is the first of all
  pub head_first : {v : Verdict} → v ≡ head_of b → is_bad v ≡ true → v ≡ structure_of b
  head_first q e = rw structure-parts (then-stop _ _ _ (rw layout-parts (then-stop _ _ _ q e)) e)

  pub by-class : (f : ℕ → List Place) → searched b (each (classes b) f) ≡ ascending (classes b) (λ c. searched b (f c))
  by-class f = search-each (holds b) drawn bad (classes b) f

  pub table-parts : (c : ℕ) → searched b (table_places b c) ≡ table_of b c (class_at b c) (part_of b (class_at b c))
  unfolding table_at first_broken
  table-parts c = search-each (holds b) drawn bad (class_at b c).code (λ i. instruction c (i + 1) ∷ [])

-- what the code searches, as its parts
pub ruleset searching = (layout-parts, structure-parts, by-class, table-parts)
