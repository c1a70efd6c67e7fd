-- The places as the code searches them, part by part; over a class's addresses, of the numbers k and the record r that a loop is handed, of class c in a bundle of n classes, whose program is P. Only contracts and proofs cite it: the law is in Places and Verdict.
use Rattle.std.specs.Prelude.{List, ℕ, ◌+◌}
use Rattle.ground.specs.Bytes.{at}
use Rattle.ground.specs.Chain.{refuse}
use Rattle.ground.specs.Lists.{first_broken}
use Rattle.bundle.specs.declared.Class.{Class}
use Rattle.bundle.specs.Container.{instruction_at}
use Rattle.bundle.specs.Program.{Program}
use Rattle.verdicts.specs.declared.Verdict.{Verdict}
use Rattle.verdicts.specs.Verdicts.{verdict, rule_fails, pass}
use Rattle.structure.specs.Loops.{ascending}
use Rattle.rows.specs.Rows.{row_at}
use Rattle.forms.specs.Forms.{row_formed, first_row}
use Rattle.rules.specs.Rule as rules
use Rattle.rules.specs.Rule.{why}
use Rattle.rules.specs.Rules.{rule_of}
use Rattle.verifier.specs.Places.{Place, holds, drawn}

-- the verdict of the first broken of some places, and `pass` where all hold
abbrev pub searched : List ℕ → List Place → Verdict
searched b places = first_broken (holds b) (drawn b) pass places

-- 8 at the address i + 1
unfoldable pub form_at : ℕ → ℕ → Class → List ℕ → ℕ → Verdict
form_at n c k r i = refuse (row_formed k.vars k.limit (row_at n k r (i + 1))) (verdict 8 c (i + 1)) pass

abbrev pub forms_of : ℕ → ℕ → Class → List ℕ → Verdict
forms_of n c k r = ascending k.code (form_at n c k r)

-- 9 at the address i + 1, and why
unfoldable pub rule_verdict : Program → ℕ → ℕ → Class → List ℕ → ℕ → Verdict
rule_verdict P n c k r i =
    let x = rule_of P k.vars (row_at n k r) (i + 1) (instruction_at k r (i + 1)) in
    refuse (rules.rule_holds k.vars x) (rule_fails c (i + 1) (why k.vars x)) pass

-- 10 and then 9 ascending
unfoldable pub rules_of : Program → ℕ → ℕ → Class → List ℕ → Verdict
rules_of P n c k r = refuse (first_row k.vars k.args (at r) (row_at n k r 1)) (verdict 10 c 0) (ascending k.code (rule_verdict P n c k r))
