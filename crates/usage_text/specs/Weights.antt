-- A usage's two numbers as the code works them out on the way, without the usage: its dip, −Min, and its rise, Fin − Min.
-- Both are natural numbers, whatever the usage. proofs/Weights.antt holds them to appendix A; believe that, not this.
use Rattle.std.specs.Prelude.{List, ◌≡◌, cond, ℕ, ◌+◌, ◌-◌, ◌≤◌, eqb, max, length, drop, Option, None, Some}
use Rattle.usages.specs.Usage.{Usage, done, lock, unlock, either, both}
use Rattle.usage_text.specs.Reading.{Read, unread, read, onward}
use Rattle.usage_text.specs.declared.Weight.{Weight}

abbrev pub weight : ℕ → ℕ → Weight
weight d r = record { dip = d; rise = r }

-- L.: the dip falls by one, and where it is 0 the end rises above it
unfoldable pub after_lock : Weight → Weight
after_lock w = weight (w.dip - 1) (w.rise + (1 - w.dip))

-- ^L.: the dip grows by one, and the end falls with it
abbrev pub after_unlock : Weight → Weight
after_unlock w = weight (w.dip + 1) w.rise

-- &: the greater dip, and the greater end above it
unfoldable pub either_of : Weight → Weight → Weight
either_of w v = weight (max w.dip v.dip) (max (w.rise + (v.dip - w.dip)) (v.rise + (w.dip - v.dip)))

-- *: the sums
abbrev pub both_of : Weight → Weight → Weight
both_of w v = weight (w.dip + v.dip) (w.rise + v.rise)

unfoldable pub weight_of : Usage → Weight
weight_of done = weight 0 0
weight_of (lock u) = after_lock (weight_of u)
weight_of (unlock u) = after_unlock (weight_of u)
weight_of (either u v) = either_of (weight_of u) (weight_of v)
weight_of (both u v) = both_of (weight_of u) (weight_of v)

-- what the code keeps of what was read: how many bytes are left, and the weight
unfoldable pub taken_of : Read → Option (ℕ × Weight)
taken_of unread = None
taken_of (read u r) = Some (length r, weight_of u)

-- the weight of what is a usage to its end
unfoldable pub whole_of : Read → Option Weight
whole_of unread = None
whole_of (read u r) = cond (eqb (length r) 0) (Some (weight_of u)) None

-- both numbers are n at most
pub record Low (n : ℕ) (w : Weight) : Type 0 where
  pub dip_low : w.dip ≤ n
  pub rise_low : w.rise ≤ n

-- the last n bytes of a text, and all of a shorter one
abbrev pub rest_of : List ℕ → ℕ → List ℕ
rest_of s n = drop (length s - n) s

-- t is what the code gives from the weight w of a usage that was read and the text s behind it: further parts, as the definition reads them
pub record Onward (sign : ℕ) (join : Usage → Usage → Usage) (part : List ℕ → Read) (s : List ℕ) (w : Weight) (t : Option (ℕ × Weight)) : Type 0 where
  pub goes : (u : Usage) → weight_of u ≡ w → t ≡ taken_of (onward sign join part (length s) u s)
