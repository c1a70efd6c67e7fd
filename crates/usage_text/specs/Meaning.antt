-- Q-11 in one relation: what is said of a text, by the grammar and the steps alone. No reader is named, and no number of appendix A.
-- `UsageMeans` is what is proved of it: the answer is the one that this says.
use Rattle.std.specs.Prelude.{◌≡◌, ◌↔◌, List, Bool, true, ℕ, ◌<◌, ◌≤◌, length, ℤ, pos, neg_ℤ, ◌≤ℤ◌}
use Rattle.usages.specs.Usage.{Usage}
use Rattle.usages.specs.Steps.{Reliable, Least, Greatest}
use Rattle.usage_text.specs.Grammar.{TextOf}
use Rattle.usage_text.specs.Answer.{longest, deepest, widest, refusal, usage_of}
use Rattle.usage_text.specs.Answer.{Reading}

-- d is how far below 0 the steps of u may lead, e is the greatest count at their end, and b is whether u is reliable
pub record Weighs (u : Usage) (d : ℕ) (e : ℤ) (b : Bool) : Type 0 where
  pub dips : Least u (neg_ℤ (pos d))
  pub ends : Greatest u e
  pub tells : (b ≡ true) ↔ Reliable u

-- "the entry's range": dip 0..63, end −63..63
pub record InEntry (d : ℕ) (e : ℤ) : Type 0 where
  pub dip_in : d ≤ widest
  pub end_above : neg_ℤ (pos widest) ≤ℤ e
  pub end_below : e ≤ℤ pos widest

pub data Says (s : List ℕ) : Reading → Type 0 where
  -- "40 too long"
  too_long : longest < length s → Says s (refusal 40)
  -- "41 not a usage": at no depth, of no usage
  no_usage : length s ≤ longest → ((d : ℕ) (u : Usage) → TextOf d s u → ⊥) → Says s (refusal 41)
  -- "42 too deep": a usage at some depth, and none at 16
  too_deep : length s ≤ longest → (d : ℕ) {u : Usage} → TextOf d s u → ((v : Usage) → TextOf deepest s v → ⊥) → Says s (refusal 42)
  -- "43 dip or end outside the entry's range"
  too_wide : length s ≤ longest → {u : Usage} → TextOf deepest s u → {d : ℕ} {e : ℤ} {b : Bool} → Weighs u d e b → (InEntry d e → ⊥)
      → Says s (refusal 43)
  -- "Give its dip and end .., and whether it is reliable"
  is_usage : length s ≤ longest → {u : Usage} → TextOf deepest s u → {d : ℕ} {e : ℤ} {b : Bool} → Weighs u d e b → InEntry d e
      → Says s (record { number = 0; dip = d; end = e; reliable = b })

-- of every text exactly one answer is so, and it is the one given
abbrev pub UsageMeans : Type 0
UsageMeans = (s : List ℕ) (a : Reading) → Says s a ↔ (a ≡ usage_of s)

-- and its numbers are in the entry's range, on a refusal too
abbrev pub UsageInEntry : Type 0
UsageInEntry = (s : List ℕ) → InEntry (usage_of s).dip (usage_of s).end
