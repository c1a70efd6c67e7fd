-- Document 02, Q-1: what the fourth number of a verdict 9 says, without a search.
use Rattle.std.specs.Prelude.{List, [], ◌∷◌, ◌++◌, ◌≡◌, true, false, ℕ, ◌<◌, ◌≤◌, eqb}
use Rattle.ground.specs.Lists.{numbered, First}
use Rattle.bundle.specs.Program.{Address, program_of}
use Rattle.verdicts.specs.declared.Verdict.{Verdict}
use Rattle.matching.specs.Matching.{Edge, variable_short, entry_short}
use Rattle.rows.specs.Typed.{typed_of}
use Rattle.rules.specs.Rule.{Rule, met}
use Rattle.rules.specs.Rules.{rule_at}

-- the comparisons along edges, in order: row l+1 before another row, variables ascending, then the stack from the top
unfoldable pub comparisons : ℕ → List Edge → List ℕ
comparisons vars [] = []
comparisons vars (e ∷ es) = (numbered vars (variable_short e) ++ numbered e.offered.depth (entry_short e)) ++ comparisons vars es

-- why 0: something asked fails; why w above 0: all that is asked holds, and w is the first comparison that isn't 0
pub record Explains (vars : ℕ) (r : Rule) (w : ℕ) : Type 0 where
  pub unmet : w ≡ 0 → met r ≡ false
  pub short : 0 < w → (met r ≡ true) × First (λ (x : ℕ). eqb x 0) (comparisons vars r.edges) w

-- of a verdict: a 9 names an address of the bundle whose rule its why explains; no other verdict has a why; it is 0 to 3
pub record WhyFirst (b : List ℕ) (v : Verdict) : Type 0 where
  pub nine : v.number ≡ 9
      → Address (program_of b) v.class v.address
      × Explains ((program_of b).method v.class).vars (rule_at (typed_of b) v.class v.address) v.why
  pub other : (v.number ≡ 9 → ⊥) → v.why ≡ 0
  pub few : v.why ≤ 3
