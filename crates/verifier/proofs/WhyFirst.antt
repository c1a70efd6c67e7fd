-- The why of a verdict 9 is the first comparison that isn't 0, and 0 only where something asked fails.
use mathlib.Core.List.{List, [], ◌∷◌, ◌++◌}
use mathlib.Core.Path.{◌≡◌, refl, sym, ap, ◌∙◌}
use mathlib.Core.Logic.{◌≢◌}
use mathlib.Core.Bool.{Bool, true, false, cond, not, ◌&&◌}
use Prim.Native.Nat.{ℕ, ◌<◌}
use native.Mathlib.Omega.{arith}
use lib.Dec.{eqb}
use borrow.Author.Tests.{eq-eqb, ne_eqb, eqb-true, not-false}
use Rattle.ground.specs.Chain.{refuse}
use Rattle.ground.specs.Lists.{numbered, First, first_broken}
use Rattle.ground.proofs.Bools.{never}
use Rattle.ground.proofs.Lists.{first-in, first-is, first-append, first-each}
use Rattle.bundle.specs.Container.{classes}
use Rattle.verdicts.specs.Verdicts.{verdict, is_bad}
use Rattle.structure.specs.Places as structure
use Rattle.matching.specs.Matching.{Edge, is_short, then_short, first_short, variable_short, entry_short, edge_short}
use Rattle.matching.proofs.Scans.{first-same}
use Rattle.rows.specs.Typed.{typed_of}
use Rattle.rules.specs.Rule.{Rule, met, short_along, short_of, why}
use Rattle.rules.specs.Rule as rules
use Rattle.rules.specs.Rules.{rule_at}
use Rattle.rules.proofs.Judging.{why-few}
use Rattle.verifier.specs.Verdict.{verdict_of}
use Rattle.verifier.specs.Places.{Place, structural, form, first, rule, Within, places, holds, drawn}
use Rattle.verifier.specs.Why.{comparisons, Explains, WhyFirst}
use Rattle.verifier.proofs.FirstBroken.{verdict-judges, verdict-first, verdict-zero, zero-verdict}

-- the first of a list that isn't 0
abbrev lead : List ℕ → ℕ
lead l = first_broken (λ (x : ℕ). eqb x 0) (λ (x : ℕ). x) 0 l

lead-one : (x : ℕ) → lead (x ∷ []) ≡ x
unfolding first_broken refuse
lead-one x = go (eqb x 0) refl
  where
    go : (t : Bool) → eqb x 0 ≡ t → cond t 0 x ≡ x
    go true q = sym (eqb-true x 0 q)
    go false q = refl

lead-append : (l m : List ℕ) → lead (l ++ m) ≡ then_short (lead l) (lead m)
lead-append l m = first-append (λ (x : ℕ). eqb x 0) (λ (x : ℕ). x) is_short (λ x e. ap not e) 0 0 refl l m

lead-numbered : (n : ℕ) (f : ℕ → ℕ) → lead (numbered n f) ≡ first_short n f
lead-numbered n f =
    first-each (λ (x : ℕ). eqb x 0) (λ (x : ℕ). x) is_short (λ x e. ap not e) 0 refl n (λ i. f i ∷ []) ∙ first-same _ f n (λ i _. lead-one (f i))

lead-along : (vars : ℕ) (es : List Edge) → lead (comparisons vars es) ≡ short_along vars es
unfolding comparisons edge_short first_broken
lead-along vars [] = refl
lead-along vars (e ∷ es) =
    lead-append (numbered vars (variable_short e) ++ numbered e.offered.depth (entry_short e)) (comparisons vars es)
    ∙ rw (
      lead-append (numbered vars (variable_short e)) (numbered e.offered.depth (entry_short e)),
      lead-numbered vars (variable_short e),
      lead-numbered e.offered.depth (entry_short e),
      lead-along vars es,
    )

lead-first : (l : List ℕ) → 0 < lead l → First (λ (x : ℕ). eqb x 0) l (lead l)
lead-first l h =
    let r = first-is (λ (x : ℕ). eqb x 0) (λ (x : ℕ). x) is_short (λ x e. ap not e) 0 refl l (ap not (ne_eqb (lead l) 0 (omega arith))) in
    rw r.2 r.1

-- of a rule that does not hold
explains : (vars : ℕ) (r : Rule) → rules.rule_holds vars r ≡ false → Explains vars r (why vars r)
unfolding rules.rule_holds why short_of
explains vars r h = go (met r) refl h
  where
    go : (t : Bool) → met r ≡ t → (t && eqb (short_along vars r.edges) 0) ≡ false → Explains vars r (cond t (short_along vars r.edges) 0)
    go false q h = record { unmet = λ _. q; short = λ l. absurd (omega arith) }
    go true q h =
        record {
          unmet = λ z. never (eq-eqb _ 0 z) h;
          short = λ l. (q, rw (lead-along vars r.edges) at (lead-first (comparisons vars r.edges) (rw (lead-along vars r.edges) l)));
        }

module _ (b : List ℕ) where
  -- no why but with 9
  plain : (n c a : ℕ) → n ≢ 9 → WhyFirst b (verdict n c a)
  plain n c a h = record { nine = λ q. absurd (h q); other = λ _. refl; few = omega arith }

  structural-plain : (p : structure.Place) → WhyFirst b (structure.drawn p)
  structural-plain structure.whole = plain 1 0 0 (omega arith)
  structural-plain structure.trailer = plain 2 0 0 (omega arith)
  structural-plain structure.directory = plain 3 0 0 (omega arith)
  structural-plain (structure.limits c) = plain 4 c 0 (omega arith)
  structural-plain (structure.extent c) = plain 5 c 0 (omega arith)
  structural-plain (structure.descriptors c) = plain 6 c 0 (omega arith)
  structural-plain (structure.instruction c l) = plain 7 c l (omega arith)

  of-place : (p : Place) → Within b p → holds b p ≡ false → WhyFirst b (drawn b p)
  of-place (structural p) w h = structural-plain p
  of-place (form c l) w h = plain 8 c l (omega arith)
  of-place (first c) w h = plain 10 c 0 (omega arith)
  of-place (rule c l) w h =
      let x = rule_at (typed_of b) c l in record { nine = λ _. (w, explains _ x h); other = λ n. absurd (n refl); few = why-few _ x }

  -- THEOREM: a 9 with why 0 names an address where something asked fails; with why w above 0 one where all that is asked holds, and w is the first comparison that isn't 0
  pub why-first : WhyFirst b (verdict_of b)
  why-first = go (is_bad (verdict_of b)) refl
    where
      go : (t : Bool) → is_bad (verdict_of b) ≡ t → WhyFirst b (verdict_of b)
      go false e = rw (zero-verdict b (verdict-zero b (eqb-true _ 0 (not-false _ e)))) (plain 0 (classes b) 0 (omega arith))
      go true e =
          let n = verdict-first b e in
          rw n.is (of-place n.place ((verdict-judges b).within n.place (first-in (holds b) (places b) n.place n.first)) n.first.broken)
