-- `ordered_verdict_of` judges all places of a bundle and its levels; and the code's searches are of parts of their list.
use mathlib.Core.List.{List, [], ◌∷◌, ◌++◌, map}
use mathlib.Core.Path.{◌≡◌, refl, sym, ap, ap₂, ◌∙◌}
use mathlib.Core.Logic.{inl, inr, ⊎_elim}
use mathlib.Core.Bool.{true}
use Prim.Native.Nat.{ℕ, zero, suc, ◌+◌}
use Rattle.ground.specs.Chain.{refuse}
use Rattle.ground.specs.Lists.{each, In, first_broken}
use Rattle.ground.proofs.Lists.{in-append, in_left, in_right, in-each, in-numbered, in_map, first-append, first-map}
use Rattle.bundle.specs.Container.{classes, class_at, part_of}
use Rattle.bundle.specs.Program.{method_of, method_at, program_of}
use Rattle.verdicts.specs.declared.Verdict.{Verdict}
use Rattle.verdicts.specs.Verdicts.{verdict, is_bad}
use Rattle.structure.specs.Loops.{and_then, ascending}
use Rattle.structure.specs.Structure.{structure_of}
use Rattle.structure.specs.Places.{structure_places}
use Rattle.structure.proofs.Judges.{judges, search-then, search-last, search-each}
use Rattle.verifier.specs.Places as verifier
use Rattle.verifier.specs.Places.{structural, form, first, rule, form_places, rule_places}
use Rattle.verifier.specs.Loops as verifier-loops
use Rattle.verifier.proofs.FirstBroken as verifier-proofs
use Rattle.verifier.proofs.FirstBroken.{verdict-judges}
use Rattle.order.specs.Order.{eight_levels}
use Rattle.order.specs.Places.{Place, list, base, order, Within, with_order, extended, places, holds, drawn}
use Rattle.order.specs.Verdict.{ordered_verdict_of, OrderedJudges}
use Rattle.order.specs.Loops.{searched, ordered_places, ordered_at, ordered_of}

bad : (b : List ℕ) (p : Place) → is_bad (drawn b p) ≡ true
bad b list = refl
bad b (base p) = verifier-proofs.bad b p
bad b (order c l) = refl

-- ---- what stands in an extended list
base-in : (p : verifier.Place) → In (base p) (with_order p)
unfolding In
base-in (structural p) = inl refl
base-in (form c l) = inl refl
base-in (first c) = inl refl
base-in (rule c l) = inl refl

extended-in : (q : Place) (p : verifier.Place) (l : List verifier.Place) → In q (with_order p) → In p l → In q (extended l)
unfolding In extended
extended-in q p [] h x'' = elim x'' [ ]
extended-in q p (r ∷ l) h (inl e) = in_left q (with_order r) (extended l) (rw e at h)
extended-in q p (r ∷ l) h (inr k) = in_right q (with_order r) (extended l) (extended-in q p l h k)

in-extended : (q : Place) (l : List verifier.Place) → In q (extended l) → (p : verifier.Place) × In p l × In q (with_order p)
unfolding In extended
in-extended q [] h = elim h [ ]
in-extended q (r ∷ l) h =
    ⊎_elim (λ k. (r, inl refl, k)) (λ k. let x = in-extended q l k in (x.0, inr x.1, x.2)) (in-append q (with_order r) (extended l) h)

module _ (b : List ℕ) where
  listed : (p : Place) → Within b p → In p (places b)
  unfolding In
  listed list w = inl refl
  listed (base p) w = inr (extended-in (base p) p (verifier.places b) (base-in p) ((verdict-judges b).listed p w))
  listed (order c l) w = inr (extended-in (order c l) (rule c l) (verifier.places b) (inr (inl refl)) ((verdict-judges b).listed (rule c l) w))

  -- what a place of `verify` is extended to is within the bundle where it is
  with-within : (p : verifier.Place) (q : Place) → verifier.Within b p → In q (with_order p) → Within b q
  unfolding In
  with-within (rule c l) q w (inr (inr x7)) = elim x7 [ ]
  with-within (first c) q w (inr x5) = elim x5 [ ]
  with-within (form c l) q w (inr x4) = elim x4 [ ]
  with-within (structural p) q w (inr x3) = elim x3 [ ]
  with-within (structural p) q w (inl e) = rw e w
  with-within (form c l) q w (inl e) = rw e w
  with-within (first c) q w (inl e) = rw e w
  with-within (rule c l) q w (inl e) = rw e w
  with-within (rule c l) q w (inr (inl e)) = rw e w

  within : (p : Place) → In p (places b) → Within b p
  unfolding In
  within q (inl e) = rw e tt
  within q (inr h) = let x = in-extended q (verifier.places b) h in with-within x.0 q ((verdict-judges b).within x.0 x.1) x.2

-- THE ORDER: a verdict other than 0 is the first broken place's; accepted exactly where every rule holds at every place
pub ordered-judges : OrderedJudges
unfolding ordered_verdict_of
ordered-judges b levels = judges (holds b levels) (drawn b) (bad b) (places b) (Within b) (classes b) (listed b) (within b)

-- ---- an extended list part by part
append_assoc : (l m n : List Place) → (l ++ m) ++ n ≡ l ++ (m ++ n)
append_assoc [] m n = refl
append_assoc (x ∷ l) m n = ap (λ (k : List Place). x ∷ k) (append_assoc l m n)

extended-append : (l m : List verifier.Place) → extended (l ++ m) ≡ extended l ++ extended m
unfolding extended
extended-append [] m = refl
extended-append (p ∷ l) m = ap (λ (k : List Place). with_order p ++ k) (extended-append l m) ∙ sym (append_assoc (with_order p) (extended l) (extended m))

extended-each : (n : ℕ) (f : ℕ → List verifier.Place) (g : ℕ → List Place) → ((i : ℕ) → extended (f i) ≡ g i) → extended (each n f) ≡ each n g
unfolding extended each
extended-each zero f g h = refl
extended-each (suc n) f g h = extended-append (each n f) (f n) ∙ ap₂ (λ (k m : List Place). k ++ m) (extended-each n f g h) (h n)

-- where no rule stands, nothing is added
extended-plain : (l : List verifier.Place) → ((p : verifier.Place) → In p l → with_order p ≡ base p ∷ []) → extended l ≡ map base l
unfolding In extended
extended-plain [] h = refl
extended-plain (p ∷ l) h = ap₂ (λ (k m : List Place). k ++ m) (h p (inl refl)) (extended-plain l (λ q k. h q (inr k)))

module _ (b : List ℕ) where
  structural-plain : (p : verifier.Place) → In p (map structural (structure_places b)) → with_order p ≡ base p ∷ []
  structural-plain p h = let x = in_map structural p (structure_places b) h in rw x.1

  forms-plain : (p : verifier.Place) → In p (each (classes b) (form_places b)) → with_order p ≡ base p ∷ []
  forms-plain p h =
      let x = in-each p (classes b) (form_places b) h in
      let y = in-numbered p (class_at b x.0).code (λ i. form x.0 (i + 1)) x.2 in
      rw y.2

  rules-extended : (c : ℕ) → extended (rule_places b c) ≡ ordered_places b c
  unfolding extended
  rules-extended c =
      ap (λ (k : List Place). base (first c) ∷ k)
      (extended-each (class_at b c).code (λ i. rule c (i + 1) ∷ []) (λ i. with_order (rule c (i + 1))) (λ i. refl))

  abbrev Structural : List verifier.Place
  Structural = map structural (structure_places b)

  abbrev Forms : List verifier.Place
  Forms = each (classes b) (form_places b)

  abbrev Rules : List Place
  Rules = each (classes b) (ordered_places b)

  places-extended : extended (verifier.places b) ≡ map base Structural ++ (map base Forms ++ Rules)
  places-extended =
      extended-append Structural (Forms ++ each (classes b) (rule_places b))
      ∙ ap₂ (λ (k m : List Place). k ++ m) (extended-plain Structural structural-plain)
      (extended-append Forms (each (classes b) (rule_places b))
      ∙ ap₂ (λ (k m : List Place). k ++ m) (extended-plain Forms forms-plain) (extended-each (classes b) (rule_places b) (ordered_places b) rules-extended))

-- ---- the parts that the code searches, one after another
module _ (b levels : List ℕ) where
  abbrev accepted : Verdict
  accepted = verdict 0 (classes b) 0

  pub verdict-parts : ordered_verdict_of b levels
      ≡ refuse (eight_levels levels) (verdict 26 0 0)
      (and_then (structure_of b) (and_then (verifier-loops.searched b (each (classes b) (form_places b)))
      (and_then (searched b levels (each (classes b) (ordered_places b))) (verdict 0 (classes b) 0))))
  unfolding ordered_verdict_of structure_of first_broken
  verdict-parts =
      ap (refuse (eight_levels levels) (verdict 26 0 0))
      (ap (first_broken (holds b levels) (drawn b) accepted) (places-extended b)
      ∙ first-append (holds b levels) (drawn b) is_bad (λ p _. bad b p) accepted accepted refl (map base (Structural b)) (map base (Forms b) ++ Rules b)
      ∙ rw (
        first-map (holds b levels) (drawn b) base accepted (Structural b),
        first-map (verifier.holds b) (verifier.drawn b) structural accepted (structure_places b),
        search-then (holds b levels) (drawn b) (bad b) accepted (map base (Forms b)) (Rules b),
        first-map (holds b levels) (drawn b) base (verdict 0 0 0) (Forms b),
        search-last (holds b levels) (drawn b) (bad b) accepted (Rules b),
      ))

  pub by-class : (f : ℕ → List Place) → searched b levels (each (classes b) f) ≡ ascending (classes b) (λ c. searched b levels (f c))
  by-class f = search-each (holds b levels) (drawn b) (bad b) (classes b) f

  pub ordered-parts : (c : ℕ) → searched b levels (ordered_places b c) ≡ ordered_of (program_of b) levels (classes b) c (class_at b c) (part_of b (class_at b c))
  unfolding ordered_of ordered_at first_broken program_of method_at method_of
  ordered-parts c =
      ap (refuse (holds b levels (base (first c))) (verdict 10 c 0))
      (search-each (holds b levels) (drawn b) (bad b) (class_at b c).code (λ i. with_order (rule c (i + 1))))

-- what the code searches, as its parts
pub ruleset searching = (verdict-parts, by-class, ordered-parts)
