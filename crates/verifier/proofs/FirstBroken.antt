-- `verdict_of` judges all places of a bundle; and the code's searches are of parts of their list.
use mathlib.Core.List.{List, [], ◌∷◌, ◌++◌, map}
use mathlib.Core.Path.{◌≡◌, refl, ap, ◌∙◌}
use mathlib.Core.Logic.{inl, inr, ⊎_elim}
use mathlib.Core.Bool.{true, false, not}
use Prim.Native.Nat.{ℕ, ◌+◌, ◌-◌, ◌<◌}
use native.Mathlib.Omega.{arith}
use lib.Dec.{eqb}
use borrow.Author.Tests.{eq-eqb, eqb-true, not-false}
use Rattle.ground.specs.Chain.{refuse, or_then}
use Rattle.ground.specs.Lists.{each, numbered, In, first_broken}
use Rattle.ground.proofs.Chain.{then-elim}
use Rattle.ground.proofs.Lists.{in-append, in_left, in_right, in-each, each_in, in-numbered, numbered-in, in_map, map-in, first-append, first-map}
use Rattle.bundle.specs.Container.{classes, class_at, part_of}
use Rattle.bundle.specs.Program.{method_of, method_at, program_of}
use Rattle.verdicts.specs.declared.Verdict.{Verdict}
use Rattle.verdicts.specs.Verdicts.{verdict, is_bad, Names}
use Rattle.structure.specs.Loops.{and_then, ascending}
use Rattle.structure.specs.Structure.{structure_of}
use Rattle.structure.specs.Places.{structure_places}
use Rattle.structure.proofs.Judges.{judges, search-then, search-last, search-each}
use Rattle.structure.proofs.FirstBroken.{structure-judges}
use Rattle.structure.proofs.FirstBroken as structure
use Rattle.verifier.specs.Places.{Place, structural, form, first, rule, Within, form_places, rule_places, places, holds, drawn}
use Rattle.verifier.specs.Verdict.{verdict_of, VerdictJudges, Agrees, AgreesBack}
use Rattle.verifier.specs.Loops.{searched, form_at, forms_of, rule_verdict, rules_of}

pub bad : (b : List ℕ) (p : Place) → is_bad (drawn b p) ≡ true
bad b (structural p) = structure.bad p
bad b (form c l) = refl
bad b (first c) = refl
bad b (rule c l) = refl

module _ (b : List ℕ) where
  -- the three parts of the list
  abbrev Structural : List Place
  Structural = map structural (structure_places b)

  abbrev Forms : List Place
  Forms = each (classes b) (form_places b)

  abbrev Rules : List Place
  Rules = each (classes b) (rule_places b)

  listed : (p : Place) → Within b p → In p (places b)
  unfolding In program_of method_at method_of
  listed (structural p) w = in_left _ Structural _ (map-in structural p (structure_places b) ((structure-judges b).listed p w))
  listed (form c l) w =
      in_right _ Structural _ (in_left _ Forms _ (each_in _ _ (form_places b) c w.class_known
      (numbered-in _ _ (λ i. form c (i + 1)) (l - 1) (omega (arith, w.first, w.last)) (ap (form c) (omega (arith, w.first))))))
  listed (first c) w = in_right _ Structural _ (in_right _ Forms _ (each_in _ _ (rule_places b) c w (inl refl)))
  listed (rule c l) w =
      in_right _ Structural _ (in_right _ Forms _ (each_in _ _ (rule_places b) c w.class_known
      (inr (numbered-in _ _ (λ i. rule c (i + 1)) (l - 1) (omega (arith, w.first, w.last)) (ap (rule c) (omega (arith, w.first)))))))

  form-within : (p : Place) (c : ℕ) → c < classes b → In p (form_places b c) → Within b p
  unfolding program_of method_at method_of
  form-within p c l h =
      let i = in-numbered p (class_at b c).code (λ i. form c (i + 1)) h in
      rw i.2 (record { class_known = l; first = omega arith; last = omega (arith, i.1) })

  rule-within : (p : Place) (c : ℕ) → c < classes b → In p (rule_places b c) → Within b p
  unfolding In program_of method_at method_of
  rule-within p c l (inl e) = rw e l
  rule-within p c l (inr h) =
      let i = in-numbered p (class_at b c).code (λ i. rule c (i + 1)) h in
      rw i.2 (record { class_known = l; first = omega arith; last = omega (arith, i.1) })

  within : (p : Place) → In p (places b) → Within b p
  within p h =
      ⊎_elim (λ k. let q = in_map structural p (structure_places b) k in rw q.1 ((structure-judges b).within q.0 q.2))
      (λ m. ⊎_elim (λ k. let c = in-each p (classes b) (form_places b) k in form-within p c.0 c.1 c.2)
      (λ k. let c = in-each p (classes b) (rule_places b) k in rule-within p c.0 c.1 c.2) (in-append p Forms Rules m))
      (in-append p Structural (Forms ++ Rules) h)

-- THE ORDER: a verdict other than 0 is the first broken place's; accepted exactly where every rule holds at every place
pub verdict-judges : VerdictJudges
unfolding verdict_of
verdict-judges b = judges (holds b) (drawn b) (bad b) (places b) (Within b) (classes b) (listed b) (within b)

module _ (b : List ℕ) where
  pub verdict-first : is_bad (verdict_of b) ≡ true → Names (holds b) (drawn b) (places b) (verdict_of b)
  verdict-first = (verdict-judges b).first

  pub verdict-zero : (verdict_of b).number ≡ 0 → (p : Place) → Within b p → holds b p ≡ true
  verdict-zero = (verdict-judges b).zero

  pub zero-verdict : ((p : Place) → Within b p → holds b p ≡ true) → verdict_of b ≡ verdict 0 (classes b) 0
  zero-verdict = (verdict-judges b).only

  -- ---- the parts that the code searches, one after another
  pub verdict-parts : verdict_of b
      ≡ and_then (structure_of b) (and_then (searched b (each (classes b) (form_places b))) (and_then (searched b (each (classes b) (rule_places b))) (verdict 0 (classes b) 0)))
  unfolding verdict_of structure_of
  verdict-parts =
      first-append (holds b) (drawn b) is_bad (λ p _. bad b p) accepted accepted refl (Structural b) (Forms b ++ Rules b)
      ∙ rw (
        first-map (holds b) (drawn b) structural accepted (structure_places b),
        search-then (holds b) (drawn b) (bad b) accepted (Forms b) (Rules b),
        search-last (holds b) (drawn b) (bad b) accepted (Rules b),
      )
    where
      accepted : Verdict
      accepted = verdict 0 (classes b) 0

  pub by-class : (f : ℕ → List Place) → searched b (each (classes b) f) ≡ ascending (classes b) (λ c. searched b (f c))
  by-class f = search-each (holds b) (drawn b) (bad b) (classes b) f

  pub form-parts : (c : ℕ) → searched b (form_places b c) ≡ forms_of (classes b) c (class_at b c) (part_of b (class_at b c))
  unfolding form_at first_broken program_of method_at method_of
  form-parts c = search-each (holds b) (drawn b) (bad b) (class_at b c).code (λ i. form c (i + 1) ∷ [])

  rule-first : (c : ℕ) → searched b (rule_places b c)
      ≡ refuse (holds b (first c)) (verdict 10 c 0) (searched b (numbered (class_at b c).code (λ i. rule c (i + 1))))
  unfolding first_broken
  rule-first c = refl

  rule-each : (c : ℕ) → searched b (numbered (class_at b c).code (λ i. rule c (i + 1)))
      ≡ ascending (class_at b c).code (rule_verdict (program_of b) (classes b) c (class_at b c) (part_of b (class_at b c)))
  unfolding rule_verdict first_broken program_of method_at method_of
  rule-each c = search-each (holds b) (drawn b) (bad b) (class_at b c).code (λ i. rule c (i + 1) ∷ [])

  pub rule-parts : (c : ℕ) → searched b (rule_places b c) ≡ rules_of (program_of b) (classes b) c (class_at b c) (part_of b (class_at b c))
  unfolding rules_of program_of method_at method_of
  rule-parts c = rule-first c ∙ ap (refuse (holds b (first c)) (verdict 10 c 0)) (rule-each c)

-- what the code searches, as its parts
pub ruleset searching = (verdict-parts, by-class, form-parts, rule-parts)

-- verify and structure agree on 1 to 7
pub agrees : Agrees
unfolding or_then
agrees b e = verdict-parts b ∙ rw e

pub agrees_back : AgreesBack
agrees_back b e = unbad (structure_of b).number (then-elim is_bad (structure_of b) _ (rw (verdict-parts b) at (ap not (eq-eqb (verdict_of b).number 0 e)))).0
  where
    unbad : (n : ℕ) → not (eqb n 0) ≡ false → n ≡ 0
    unbad n q = eqb-true n 0 (not-false (eqb n 0) q)
