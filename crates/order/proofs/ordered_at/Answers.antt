use Rattle.std.proofs.Common.{◌≡◌, false, ◌&&◌, eqb, refl, Err}
use Rattle.ground.specs.Chain.{refuse}
use Rattle.bundle.specs.Container.{instruction_at}
use Rattle.entries.specs.declared.Short.TheVariants.{Kind, Dip, End}
use Rattle.verdicts.specs.declared.Why.{Why}
use Rattle.verdicts.specs.declared.Why.TheVariants.{Unmet, Misfit}
use Rattle.verdicts.specs.Numbers.{why_number}
use Rattle.rules.specs.Rule.{ruling_in}
use Rattle.rules.proofs.Judging.{ruling-holds, ruling-why}
use Rattle.order.specs.Loops.{ordered_at}
use Rattle.order.proofs.ordered_at.Goals as goal

-- the test by which `rule_holds` is told of a ruling, and its why, of one that the code refuses
broken : (w : Why) → ((ruling_in (Err w)).met && eqb (ruling_in (Err w)).short 0) ≡ false
broken Unmet = refl
broken (Misfit Kind) = refl
broken (Misfit Dip) = refl
broken (Misfit End) = refl

told : (w : Why) → (ruling_in (Err w)).short ≡ why_number w
told Unmet = refl
told (Misfit s) = refl

pub returns-in-Err : goal.returns-in-Err
unfolding ordered_at instruction_at refuse
returns-in-Err c =
    let w = c.in-Err.why in
    let e = c.in-Err.ensures in
    rw (← c.code_at-x.ensures, ← ruling-holds _ _, ← ruling-why _ _, ← e, broken w, told w)

pub returns-then-not-order_of : goal.returns-then-not-order_of
unfolding ordered_at instruction_at refuse
returns-then-not-order_of c =
    rw (← c.code_at-x.ensures, ← ruling-holds _ _, ← c.in_default.ensures, ← c.order_of.ensures, c.if-not-order_of.true)

pub returns : goal.returns
unfolding ordered_at instruction_at refuse
returns c = rw (← c.code_at-x.ensures, ← ruling-holds _ _, ← c.in_default.ensures, ← c.order_of.ensures, c.if-not-order_of.false)
