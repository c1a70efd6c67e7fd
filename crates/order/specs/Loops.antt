-- The places as the code searches them, part by part; over a class's addresses, of the numbers k and the record r that a loop is handed, of class c in a bundle of n classes, whose program is P. Only contracts and proofs cite it: the law is in Places and Verdict.
use Rattle.std.specs.Prelude.{List, ◌∷◌, ℕ, ◌+◌}
use Rattle.ground.specs.Bytes.{at}
use Rattle.ground.specs.Chain.{refuse}
use Rattle.ground.specs.Lists.{each, first_broken}
use Rattle.bundle.specs.declared.Class.{Class}
use Rattle.bundle.specs.Container.{class_at, instruction_at}
use Rattle.bundle.specs.Program.{Program}
use Rattle.verdicts.specs.declared.Verdict.{Verdict}
use Rattle.verdicts.specs.Verdicts.{verdict, rule_fails, pass}
use Rattle.structure.specs.Loops.{ascending}
use Rattle.rows.specs.Rows.{row_at}
use Rattle.forms.specs.Forms.{first_row}
use Rattle.rules.specs.Rule.{rule_holds, why}
use Rattle.rules.specs.Rules.{rule_of}
use Rattle.verifier.specs.Places.{first, rule}
use Rattle.order.specs.Order.{order_of}
use Rattle.order.specs.Places.{Place, base, with_order, holds, drawn}

-- the verdict of the first broken of some places, and `pass` where all hold
abbrev pub searched : List ℕ → List ℕ → List Place → Verdict
searched b levels places = first_broken (holds b levels) (drawn b) pass places

-- 10, and then for each address ascending 9 and 25
abbrev pub ordered_places : List ℕ → ℕ → List Place
ordered_places b c = base (first c) ∷ each (class_at b c).code (λ i. with_order (rule c (i + 1)))

-- 9, and why, and then 25 at the address i + 1
unfoldable pub ordered_at : Program → List ℕ → ℕ → ℕ → Class → List ℕ → ℕ → Verdict
ordered_at P levels n c k r i =
    let x = rule_of P k.vars (row_at n k r) (i + 1) (instruction_at k r (i + 1)) in
    refuse (rule_holds k.vars x) (rule_fails c (i + 1) (why k.vars x))
    (refuse (order_of levels k.vars (row_at n k r (i + 1)) (instruction_at k r (i + 1))) (verdict 25 c (i + 1)) pass)

-- 10 and then these ascending
unfoldable pub ordered_of : Program → List ℕ → ℕ → ℕ → Class → List ℕ → Verdict
ordered_of P levels n c k r = refuse (first_row k.vars k.args (at r) (row_at n k r 1)) (verdict 10 c 0) (ascending k.code (ordered_at P levels n c k r))
