-- For the code's own use: what a step of the walk over a code gives, and where the walk stands then.
use Rattle.std.specs.Prelude.{◌≡◌, List, ℕ, ◌+◌, ◌≤◌, ◌<◌, length, Option, MatchOption}
use Rattle.java.specs.declared.steps.Placed.{Placed}
use Rattle.java.specs.declared.steps.Steps.{Steps}
use Rattle.java.specs.Instructions.{java_at, size_at}

-- x is the instruction at offset p, and q is right behind it
abbrev pub Goes : List ℕ → ℕ → Placed → ℕ → Type 0
Goes code p x q = (p < length code) × (x.at ≡ p) × (x.java ≡ java_at code p) × (x.size ≡ size_at code p) × (q ≡ p + size_at code p)

-- from s on to t; none where the code ends
pub record WalksOn (s : Steps) (r : Option Placed) (t : Steps) : Type 0 where
  pub code : t.code.now ≡ s.code.now
  pub item : MatchOption r ((length s.code.now ≤ s.at) × (t.at ≡ s.at)) (λ x. Goes s.code.now s.at x t.at)
