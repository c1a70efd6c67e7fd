-- What the code makes of a rule's ruling: nothing where the rule holds, otherwise a 9 and why.
use mathlib.Core.Path.{◌≡◌, refl, sym, ap, ◌∙◌}
use mathlib.Core.Bool.{false, ◌&&◌}
use Prim.Native.Nat.{ℕ}
use lib.Dec.{eqb}
use Rattle.std.specs.Prelude.{Result, Ok, Err}
use Rattle.ground.specs.Chain.{refuse}
use Rattle.entries.specs.declared.Short.TheVariants.{Kind, Dip, End}
use Rattle.verdicts.specs.declared.Why.{Why}
use Rattle.verdicts.specs.declared.Why.TheVariants.{Unmet, Misfit}
use Rattle.verdicts.specs.declared.Refusal.{Refusal}
use Rattle.verdicts.specs.declared.Refusal.TheVariants as refusal
use Rattle.verdicts.specs.Numbers.{why_number, found}
use Rattle.verdicts.specs.Verdicts.{rule_fails, pass}
use Rattle.rules.specs.Rule.{Rule, Ruling, ruling, ruling_in, rule_holds, why}
use Rattle.rules.proofs.Judging.{ruling-holds, ruling-why}

not-well : (w : Why) → ((ruling_in (Err w)).met && eqb (ruling_in (Err w)).short 0) ≡ false
not-well Unmet = refl
not-well (Misfit Kind) = refl
not-well (Misfit Dip) = refl
not-well (Misfit End) = refl

number-told : (w : Why) → (ruling_in (Err w)).short ≡ why_number w
number-told Unmet = refl
number-told (Misfit s) = refl

module _ (vars : ℕ) (r : Rule) where
  same-test : (x : Ruling) → x ≡ ruling vars r → rule_holds vars r ≡ (x.met && eqb x.short 0)
  same-test x q = sym (ap (λ (y : Ruling). y.met && eqb y.short 0) q ∙ ruling-holds vars r)

  same-why : (x : Ruling) → x ≡ ruling vars r → why vars r ≡ x.short
  same-why x q = sym (ap (λ (y : Ruling). y.short) q ∙ ruling-why vars r)

  -- the refusal is of the address a of class c
  pub ruled : (c a : ℕ) (told : Result Unit Why) (given : Result Unit Refusal)
      → ((u : Unit) → told ≡ Ok u → given ≡ Ok u) → ((w : Why) → told ≡ Err w → given ≡ Err (refusal.Rule c (record { 0 = a }) w))
      → ruling_in told ≡ ruling vars r → found given ≡ refuse (rule_holds vars r) (rule_fails c a (why vars r)) pass
  unfolding refuse
  ruled c a (Ok u) given h k q = rw (h u refl, same-test _ q)
  ruled c a (Err w) given h k q = rw (k w refl, same-test _ q, not-well w, same-why _ q, number-told w)
