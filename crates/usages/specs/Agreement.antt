-- Q-11: "This must agree with the paper's definition over steps". What is proved of appendix A's numbers; proofs/Reliability.antt proves it.
use Rattle.std.specs.Prelude.{◌≡◌, ◌↔◌, true, ℤ, pos, ◌-ℤ◌}
use Rattle.usages.specs.Usage.{Usage}
use Rattle.usages.specs.Counts.{min_of, fin_of}
use Rattle.usages.specs.Steps.{Step, finished, unlocks_next, Reliable, Least, Greatest}

-- Min is the least count that is reached
abbrev pub MinIsLeast : Type 0
MinIsLeast = (u : Usage) → Least u (min_of u)

-- Fin is the greatest count at a finished usage that is reached
abbrev pub FinIsGreatest : Type 0
FinIsGreatest = (u : Usage) → Greatest u (fin_of u)

-- "rel(U) if and only if Min = Fin = 0"
abbrev pub ReliableAgrees : Type 0
ReliableAgrees = (u : Usage) → Reliable u ↔ ((min_of u ≡ pos 0) × (fin_of u ≡ pos 0))

-- ---- the two tests on a usage, by the steps alone
-- finished: no step goes on
abbrev pub FinishedMeans : Type 0
FinishedMeans = (u : Usage) (n : ℤ) → (finished u ≡ true) ↔ ((v : Usage) (m : ℤ) → Step u n v m → ⊥)

-- an ^L can be done next: some step takes one from the count
abbrev pub UnlocksNextMeans : Type 0
UnlocksNextMeans = (u : Usage) (n : ℤ) → (unlocks_next u ≡ true) ↔ ((v : Usage) × Step u n v (n -ℤ pos 1))
