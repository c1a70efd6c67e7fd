-- Document 02, Q-5: what a choice of pairs is, and which is the least.
use Rattle.std.specs.Prelude.{List, ◌≡◌, ℕ, ◌+◌, ◌≤◌, ◌<◌, length}
use Rattle.ground.specs.Bytes.{at}
use Rattle.entries.specs.Entries.{max_dip, min_end, max_end}
use Rattle.verifier.specs.Verdict.{verdict_of}
use Rattle.shape.specs.PairBytes.{place_of, Reference, PairByte}

-- x is as long as b, a string of bytes, and nothing but pair bytes differs
pub record Alike (b x : List ℕ) : Type 0 where
  pub long : length x ≡ length b
  pub bytes : (p : ℕ) → at x p < 256
  pub others : (p : ℕ) → (PairByte b p → ⊥) → at x p ≡ at b p

-- x is b with some choice of dips 0..63 and ends -63..63
pub record Choice (b x : List ℕ) : Type 0 where
  pub alike : Alike b x
  pub dips : (c l s : ℕ) → Reference b c l s → at x (place_of b c l s + 2) ≤ max_dip
  pub least_end : (c l s : ℕ) → Reference b c l s → min_end ≤ at x (place_of b c l s + 3)
  pub ends : (c l s : ℕ) → Reference b c l s → at x (place_of b c l s + 3) ≤ max_end

-- the verifier accepts it
abbrev pub Accepted : List ℕ → Type 0
Accepted x = (verdict_of x).number ≡ 0

-- every dip and every end is at most y's at its place; an end is stored with 64 added
abbrev pub Below : List ℕ → List ℕ → Type 0
Below x y = (p : ℕ) → at x p ≤ at y p

-- x is the choice in which every dip and every end is the least that any accepted choice has at its place
pub record Least (b x : List ℕ) : Type 0 where
  pub choice : Choice b x
  pub accepted : Accepted x
  pub least : (y : List ℕ) → Choice b y → Accepted y → Below x y
