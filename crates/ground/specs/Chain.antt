-- Answers in order: the first refusal that applies is the answer.
use Rattle.std.specs.Prelude.{Bool, cond, ℕ, zero, suc}

-- the refusal where the test fails, and the rest where it holds
unfoldable pub refuse {ℓ} : {A : Type ℓ} → Bool → A → A → A
refuse ok refusal rest = cond ok rest refusal

module _ {A : Type 0} (bad : A → Bool) where
  -- two stages: the first's answer where that is bad, and the second's otherwise
  unfoldable pub or_then : A → A → A
  or_then first second = cond (bad first) first second

  -- the first bad answer among f 0 .. f (n - 1), and `pass` where there is none
  unfoldable pub scan : A → ℕ → (ℕ → A) → A
  scan pass zero f = pass
  scan pass (suc n) f = or_then (scan pass n f) (or_then (f n) pass)
