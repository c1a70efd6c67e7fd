-- The places as the code searches them, part by part; over a class's addresses, of the numbers k and the record r that a loop is handed. Only contracts and proofs cite it: the law is in Places and Structure.
use Rattle.std.specs.Prelude.{List, ℕ, ◌+◌}
use Rattle.ground.specs.Chain.{refuse, or_then, scan}
use Rattle.bundle.specs.declared.Class.{Class}
use Rattle.verdicts.specs.declared.Verdict.{Verdict}
use Rattle.verdicts.specs.Verdicts.{verdict, is_bad, pass}
use Rattle.structure.specs.Conditions.{address_ok}

-- one search after another: the first's verdict where it is bad
abbrev pub and_then : Verdict → Verdict → Verdict
and_then first second = or_then is_bad first second

-- the first bad verdict of n in ascending order
abbrev pub ascending : ℕ → (ℕ → Verdict) → Verdict
ascending n f = scan is_bad pass n f

-- 7 at the address i + 1 of class c, in the bundle b
unfoldable pub table_at : List ℕ → ℕ → Class → List ℕ → ℕ → Verdict
table_at b c k r i = refuse (address_ok b k r (i + 1)) (verdict 7 c (i + 1)) pass

abbrev pub table_of : List ℕ → ℕ → Class → List ℕ → Verdict
table_of b c k r = ascending k.code (table_at b c k r)
