-- A rule as it is written: what it asks, and its edges. From that one writing come "the rule holds" and its why (document 02, Q-1).
use Rattle.std.specs.Prelude.{List, [], ◌∷◌, Bool, true, false, cond, ◌&&◌, ℕ, eqb, Result, Ok, Err}
use Rattle.ground.specs.Chain.{refuse}
use Rattle.matching.specs.Matching.{Edge, meets, then_short, edge_short}
use Rattle.entries.specs.Shorts.{short_number}
use Rattle.verdicts.specs.declared.Why.{Why}
use Rattle.verdicts.specs.declared.Why.TheVariants.{Unmet, Misfit}

-- what is asked of row l, and the edges: row l+1 before another row
pub record Rule : Type 0 where
  pub asks : Bool
  pub edges : List Edge

abbrev pub rule : Bool → List Edge → Rule
rule a es = record { asks = a; edges = es }

-- depths must come out exact along every edge
abbrev pub all_meet : List Edge → Bool
all_meet [] = true
all_meet (e ∷ es) = meets e && all_meet es

-- what is asked is met: depths, the kinds of the entries named in row l, and "may go"
unfoldable pub met : Rule → Bool
met r = r.asks && all_meet r.edges

-- the first comparison that isn't 0, and 0 where there is none
abbrev pub short_along : ℕ → List Edge → ℕ
short_along vars [] = 0
short_along vars (e ∷ es) = then_short (edge_short vars e) (short_along vars es)

unfoldable pub short_of : ℕ → Rule → ℕ
short_of vars r = short_along vars r.edges

-- the rule holds
unfoldable pub rule_holds : ℕ → Rule → Bool
rule_holds vars r = met r && eqb (short_of vars r) 0

-- why it does not: 0 where something asked fails, otherwise the number of the first entry that fails
unfoldable pub why : ℕ → Rule → ℕ
why vars r = cond (met r) (short_of vars r) 0

-- both at once: whether what is asked is met, and what is short
pub record Ruling : Type 0 where
  pub met : Bool
  pub short : ℕ

abbrev pub unmet : Ruling
unmet = record { met = false; short = 0 }

unfoldable pub ruling : ℕ → Rule → Ruling
ruling vars r = refuse (met r) unmet (record { met = true; short = short_of vars r })

-- what the code tells of it
abbrev pub ruling_in : Result Unit Why → Ruling
ruling_in (Ok _) = record { met = true; short = 0 }
ruling_in (Err Unmet) = unmet
ruling_in (Err (Misfit s)) = record { met = true; short = short_number s }

abbrev pub asked : Bool → Result Unit Why
asked true = Ok tt
asked false = Err Unmet
