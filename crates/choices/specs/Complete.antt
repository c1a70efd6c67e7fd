-- Document 02, Q-5: a choice that has what the rules ask of it is accepted if any choice above it is; and what it asks, every accepted choice above it has.
use Rattle.std.specs.Prelude.{List, ℕ, ◌+◌, ◌≤◌}
use Rattle.ground.specs.Bytes.{at}
use Rattle.shape.specs.PairBytes.{place_of, Reference}
use Rattle.shape.specs.Apart.{Readable}
use Rattle.choices.specs.Choice.{Choice, Accepted, Below}
use Rattle.choices.specs.Asked.{need_at, Enough}

-- what x asks of a reference, every accepted choice y above x has there: `forced-entry`
abbrev pub ForcedEntry : Type 0
ForcedEntry =
    (b : List ℕ) → Readable b → (x : List ℕ) → Choice b x → (c l s : ℕ) → Reference b c l s → (y : List ℕ) → Choice b y → Accepted y → Below x y
    → ((need_at b x c l s).dip ≤ at y (place_of b c l s + 2)) × ((need_at b x c l s).end ≤ at y (place_of b c l s + 3))

-- where every reference of x has what x asks of it, and some accepted choice y is above x, x is accepted: `enough-accepted`
abbrev pub EnoughAccepted : Type 0
EnoughAccepted =
    (b : List ℕ) → Readable b → (x : List ℕ) → Choice b x → (y : List ℕ) → Choice b y → Accepted y → Below x y
    → ((c l s : ℕ) → Reference b c l s → Enough b x c l s) → Accepted x
