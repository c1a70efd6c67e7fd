-- What is asked of pairs is exactly what the rules ask of them.
use mathlib.Core.Path.{refl}
use Prim.Native.Nat.{ℕ}
use Rattle.instructions.specs.Table.{decoded}
use Rattle.instructions.proofs.Table.{admitted}
use Rattle.rows.specs.Rows.{Row}
use Rattle.needs.specs.Exactly.{same, UnderRow, AsksExactly}
use Rattle.needs.proofs.Rules.{step}

itself : (vars : ℕ) (x : Row) → UnderRow vars x x
itself vars x = record { depth = refl; variable = λ i l. same; stack = λ j l. same }

-- THEOREM: below rows of which a rule holds, it holds exactly where row l has what is asked of it
pub asks-exactly : AsksExactly
asks-exactly P classes fields vars code cur acc l x low high t rows h =
    let k = admitted classes fields vars code l x high t in
    let s = step P vars cur acc l classes fields code low high rows (decoded x) k in
    let own = step P vars cur cur l classes fields code low high (λ m a z. itself vars (cur m)) (decoded x) k in
    record { above = s.forced h; has = own.forced; holds = s.holds h }
