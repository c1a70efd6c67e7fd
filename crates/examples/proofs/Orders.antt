-- Locks taken in opposite orders stand still, by computation; and no choice of levels suits them.
use mathlib.Core.List.{List}
use mathlib.Core.Path.{◌≡◌, refl}
use Prim.Native.Nat.{ℕ, ◌<◌, ◌≤◌}
use native.Mathlib.Omega.{arith}
use native.Mathlib.Decide.{ℕ_discrete}
use Rattle.bundle.specs.Program.{Address, program_of}
use Rattle.rows.specs.Typed.{typed_of}
use Rattle.verifier.specs.Verdict.{verdict_of}
use Rattle.order.specs.Order.{level_of, owes, above, others_above, stack_above, enter_order, OrderHolds}
use Rattle.order.specs.Places.{extended}
use Rattle.order.specs.Verdict.{ordered_verdict_of}
use Rattle.order.proofs.Accepts.{accepts-exactly}
use Rattle.order.proofs.Agrees.{agrees}
use Rattle.machine.specs.Runs.{run}
use Rattle.examples.specs.Orders.{opposite, kept, looping, alike, aliased, StillsHold, JudgedHold, Refused, NeverAccepted}
use Rattle.examples.proofs.Answered.{answered}

pub stills-hold : StillsHold
unfolding answered run
stills-hold = refl

pub judged-hold : JudgedHold
unfolding answered owes above others_above stack_above enter_order extended ordered_verdict_of
judged-hold = refl

-- an accepted bundle whose order no levels suit draws 25 under every list
refused-by : (b : List ℕ) → (verdict_of b).number ≡ 0 → ((levels : List ℕ) → OrderHolds levels (typed_of b) → ⊥) → Refused b
refused-by b e f levels n = go (ℕ_discrete (ordered_verdict_of b levels).number 25)
  where
    go : Dec ((ordered_verdict_of b levels).number ≡ 25) → (ordered_verdict_of b levels).number ≡ 25
    go (yes q) = q
    go (no d) = absurd (f levels ((accepts-exactly b levels).0 (rw ((agrees b levels).other n d) e)).ordered)

-- an address of a class with so many, in a bundle of so many classes
within : {n k : ℕ} (b : List ℕ) (c l : ℕ) → (program_of b).classes ≡ n → ((program_of b).method c).code ≡ k → c < n → 1 ≤ l → l ≤ k → Address (program_of b) c l
within b c l p q x y z = record { class_known = rw p x; first = y; last = rw q z }

-- main's second monitorenter asks for one order, the worker's for the other
opposite-refused : Refused opposite
unfolding answered
opposite-refused = refused-by opposite refl no-levels
  where
    no-levels : (levels : List ℕ) → OrderHolds levels (typed_of opposite) → ⊥
    no-levels levels o =
        let x : level_of levels 0 < level_of levels 1 = (o 0 10 (within opposite 0 10 refl refl (omega arith) (omega arith) (omega arith)) _ _ refl).variables 0 1 1 63 (omega arith) (omega arith) refl (omega arith) in
        let y : level_of levels 1 < level_of levels 0 = (o 1 2 (within opposite 1 2 refl refl (omega arith) (omega arith) (omega arith)) _ _ refl).variables 1 0 1 63 (omega arith) (omega arith) refl (omega arith) in
        omega (arith, x, y)

kept-refused : Refused kept
unfolding answered
kept-refused = refused-by kept refl no-levels
  where
    no-levels : (levels : List ℕ) → OrderHolds levels (typed_of kept) → ⊥
    no-levels levels o =
        let x : level_of levels 0 < level_of levels 1 = (o 0 11 (within kept 0 11 refl refl (omega arith) (omega arith) (omega arith)) _ _ refl).stack 0 1 1 63 (omega arith) refl (omega arith) in
        let y : level_of levels 1 < level_of levels 0 = (o 1 3 (within kept 1 3 refl refl (omega arith) (omega arith) (omega arith)) _ _ refl).stack 0 0 1 63 (omega arith) refl (omega arith) in
        omega (arith, x, y)

looping-refused : Refused looping
unfolding answered
looping-refused = refused-by looping refl no-levels
  where
    no-levels : (levels : List ℕ) → OrderHolds levels (typed_of looping) → ⊥
    no-levels levels o =
        let x : level_of levels 0 < level_of levels 1 = (o 0 10 (within looping 0 10 refl refl (omega arith) (omega arith) (omega arith)) _ _ refl).variables 0 1 0 63 (omega arith) (omega arith) refl (omega arith) in
        let y : level_of levels 1 < level_of levels 0 = (o 1 2 (within looping 1 2 refl refl (omega arith) (omega arith) (omega arith)) _ _ refl).variables 1 0 0 63 (omega arith) (omega arith) refl (omega arith) in
        omega (arith, x, y)

-- no class is above itself
alike-refused : Refused alike
unfolding answered
alike-refused = refused-by alike refl no-levels
  where
    no-levels : (levels : List ℕ) → OrderHolds levels (typed_of alike) → ⊥
    no-levels levels o =
        let x : level_of levels 1 < level_of levels 1 = (o 0 10 (within alike 0 10 refl refl (omega arith) (omega arith) (omega arith)) _ _ refl).variables 0 1 1 63 (omega arith) (omega arith) refl (omega arith) in
        omega (arith, x)

aliased-refused : Refused aliased
unfolding answered
aliased-refused = refused-by aliased refl no-levels
  where
    no-levels : (levels : List ℕ) → OrderHolds levels (typed_of aliased) → ⊥
    no-levels levels o =
        let x : level_of levels 0 < level_of levels 0 = (o 0 6 (within aliased 0 6 refl refl (omega arith) (omega arith) (omega arith)) _ _ refl).variables 0 0 1 63 (omega arith) (omega arith) refl (omega arith) in
        omega (arith, x)

pub never-accepted : NeverAccepted
never-accepted = (opposite-refused, kept-refused, looping-refused, alike-refused, aliased-refused)
