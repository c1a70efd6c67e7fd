-- The verdict of the first broken place judges the places; and a search of them goes part by part.
use mathlib.Core.List.{List, [], ◌++◌, append-nil}
use mathlib.Core.Path.{◌≡◌, refl, sym, ap, ◌∙◌}
use mathlib.Core.Bool.{Bool, true, not}
use Prim.Native.Nat.{ℕ}
use borrow.Author.Tests.{eq-eqb}
use Rattle.ground.specs.Lists.{each, In, first_broken}
use Rattle.ground.proofs.Lists.{all_in, in_all, first-all, all_first, first-is, first-append, first-each}
use Rattle.verdicts.specs.declared.Verdict.{Verdict}
use Rattle.verdicts.specs.Verdicts.{verdict, is_bad, pass, Judges}
use Rattle.structure.specs.Loops.{and_then, ascending}

module _ {P : Type 0} (holds : P → Bool) (drawn : P → Verdict) (bad : (p : P) → is_bad (drawn p) ≡ true) where
  pub judges : (places : List P) (Within : P → Type 0) (n : ℕ) → ((p : P) → Within p → In p places) → ((p : P) → In p places → Within p)
      → Judges holds drawn places Within n (first_broken holds drawn (verdict 0 n 0) places)
  judges places Within n listed within =
      record {
        listed = listed;
        within = within;
        first = λ e. let r = first-is holds drawn is_bad (λ p _. bad p) (verdict 0 n 0) refl places e in record { place = r.0; first = r.1; is = r.2 };
        zero = λ e p w. all_in holds places (all_first holds drawn is_bad (λ p _. bad p) (verdict 0 n 0) places (ap not (eq-eqb _ 0 e))) p (listed p w);
        only = λ h. first-all holds drawn is_bad (λ p _. bad p) (verdict 0 n 0) places (in_all holds places (λ p k. h p (within p k)));
      }

  -- part by part: each part's verdict where it is bad
  pub search-then : (none : Verdict) (l m : List P) → first_broken holds drawn none (l ++ m) ≡ and_then (first_broken holds drawn pass l) (first_broken holds drawn none m)
  search-then none l m = first-append holds drawn is_bad (λ p _. bad p) pass none refl l m

  pub search-last : (none : Verdict) (l : List P) → first_broken holds drawn none l ≡ and_then (first_broken holds drawn pass l) none
  unfolding first_broken
  search-last none l = ap (first_broken holds drawn none) (sym (append-nil l)) ∙ search-then none l []

  pub search-each : (n : ℕ) (f : ℕ → List P) → first_broken holds drawn pass (each n f) ≡ ascending n (λ i. first_broken holds drawn pass (f i))
  search-each n f = first-each holds drawn is_bad (λ p _. bad p) pass refl n f
