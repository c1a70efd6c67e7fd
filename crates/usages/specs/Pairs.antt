-- Document 01: an entry's dip and end "stand for the source's −Min and Fin". What a pair means as a usage; proofs/Pairs.antt proves it.
use Rattle.std.specs.Prelude.{◌≡◌, ℕ, zero, suc, pos, neg_ℤ, ◌-ℤ◌, ◌≤ℤ◌}
use Rattle.usages.specs.Usage.{Usage, done, lock, unlock}
use Rattle.usages.specs.Counts.{min_of, fin_of}

-- unlocked d times, and then locked r times
unfoldable pub falling : ℕ → ℕ → Usage
falling zero zero = done
falling zero (suc r) = lock (falling zero r)
falling (suc d) r = unlock (falling d r)

-- its dip is d, and its end r − d
abbrev pub FallingHas : Type 0
FallingHas = (d r : ℕ) → (min_of (falling d r) ≡ neg_ℤ (pos d)) × (fin_of (falling d r) ≡ pos r -ℤ pos d)

-- and no usage has an end below −dip: so the pairs of usages are these and no others
abbrev pub MinUnderFin : Type 0
MinUnderFin = (u : Usage) → min_of u ≤ℤ fin_of u
