-- THEOREM: the profile accepts exactly where `verify` does, the list has eight bytes, and the order holds at every monitorenter of every class.
use mathlib.Core.List.{List}
use mathlib.Core.Path.{◌≡◌, refl, ap}
use mathlib.Core.Bool.{true}
use Prim.Native.Nat.{ℕ}
use lib.ListN.{length}
use borrow.Author.Tests.{eqb-true, eq-eqb}
use Rattle.instructions.specs.declared.Addr.{Addr}
use Rattle.instructions.specs.declared.Var.{Var}
use Rattle.instructions.specs.declared.Instruction.{Instruction}
use Rattle.instructions.specs.declared.Instruction.TheVariants.{Inc, Pop, Push0, Load, Store, If, Enter, Exit, New, Start, Throw, Return, Get, Put, Nothing}
use Rattle.verdicts.specs.declared.Verdict.{Verdict}
use Rattle.rows.specs.Rows.{Row}
use Rattle.verifier.proofs.FirstBroken.{verdict-zero, zero-verdict}
use Rattle.order.specs.Order.{order_of, Ordered}
use Rattle.order.specs.Verdict.{ordered_verdict_of, Fit, AcceptsExactly}
use Rattle.order.specs.Places.{Place, list, base, order, Within, holds}
use Rattle.order.proofs.Order.{order-elim, order-intro}
use Rattle.order.proofs.FirstBroken.{ordered-judges}

-- what shows the order at an address
shown : (levels : List ℕ) (vars : ℕ) (x : Row) (i : Instruction) → ((v : Var) (h : Addr) → i ≡ Enter v h → Ordered levels vars v.0 x) → order_of levels vars x i ≡ true
shown levels vars x Inc f = refl
shown levels vars x Pop f = refl
shown levels vars x Push0 f = refl
shown levels vars x (Load v) f = refl
shown levels vars x (Store v) f = refl
shown levels vars x (If a) f = refl
shown levels vars x (Enter v h) f = order-intro levels vars v.0 x (f v h refl)
shown levels vars x (Exit v) f = refl
shown levels vars x (New c h) f = refl
shown levels vars x (Start c) f = refl
shown levels vars x (Throw h) f = refl
shown levels vars x Return f = refl
shown levels vars x (Get c i h) f = refl
shown levels vars x (Put c i h) f = refl
shown levels vars x Nothing f = refl

module _ (b levels : List ℕ) where
  fit : (ordered_verdict_of b levels).number ≡ 0 → Fit b levels
  fit e =
      let z = (ordered-judges b levels).zero e in
      record {
        verified = ap (λ (v : Verdict). v.number) (zero-verdict b (λ p w. z (base p) w));
        eight = eqb-true (length levels) 8 (z list tt);
        ordered = λ c l a v h q. order-elim levels _ v.0 _ (rw q at (z (order c l) a));
      }

  accepted : Fit b levels → (ordered_verdict_of b levels).number ≡ 0
  accepted f = ap (λ (v : Verdict). v.number) ((ordered-judges b levels).only at)
    where
      at : (p : Place) → Within b p → holds b levels p ≡ true
      at list w = eq-eqb (length levels) 8 f.eight
      at (base p) w = verdict-zero b f.verified p w
      at (order c l) w = shown levels _ _ _ (λ v h q. f.ordered c l w v h q)

-- THEOREM: 0 exactly there
pub accepts-exactly : AcceptsExactly
accepts-exactly b levels = (fit b levels, accepted b levels)
