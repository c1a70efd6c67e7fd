-- A verdict: its number, the class and address that it names, and its why; and what it is to judge the places of a bundle.
use Rattle.std.specs.Prelude.{List, Bool, true, not, ◌≡◌, ℕ, eqb}
use Rattle.ground.specs.Lists.{In, First}
use Rattle.verdicts.specs.declared.Verdict.{Verdict}

-- why is 0 with every verdict but 9
abbrev pub verdict : ℕ → ℕ → ℕ → Verdict
verdict n c a = record { number = n; class = c; address = a; why = 0 }

-- 9: a rule fails, and why
abbrev pub rule_fails : ℕ → ℕ → ℕ → Verdict
rule_fails c a w = record { number = 9; class = c; address = a; why = w }

abbrev pub is_bad : Verdict → Bool
is_bad v = not (eqb v.number 0)

-- nothing broken so far
abbrev pub pass : Verdict
pass = verdict 0 0 0

-- places in their order, whether one holds, and the verdict that a broken one draws
module _ {P : Type 0} (holds : P → Bool) (drawn : P → Verdict) (places : List P) where
  -- v is what a broken place draws, before which every place holds
  pub record Names (v : Verdict) : Type 0 where
    pub place : P
    pub first : First holds places place
    pub is : v ≡ drawn place

  -- what the verdict v says of a bundle of n classes, whose places are those within it
  pub record Judges (Within : P → Type 0) (n : ℕ) (v : Verdict) : Type 0 where
    -- the list has the places within the bundle, and no other
    pub listed : (p : P) → Within p → In p places
    pub within : (p : P) → In p places → Within p
    -- a verdict other than 0 is the first broken place's
    pub first : is_bad v ≡ true → Names v
    -- 0: every place holds, in whatever order they are looked at
    pub zero : v.number ≡ 0 → (p : P) → Within p → holds p ≡ true
    -- .. and only then
    pub only : ((p : P) → Within p → holds p ≡ true) → v ≡ verdict 0 n 0
