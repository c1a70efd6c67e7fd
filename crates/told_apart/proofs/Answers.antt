-- The numbers of an answer, and what a step, the question of what is held and a history give, are told back.
use mathlib.Core.Path.{◌≡◌, refl, ap, ◌∙◌}
use Rattle.std.specs.Prelude.{ℕ, cond, eqb, ◌≤◌, Result, Ok, Err, Option}
use Rattle.std.specs.Prelude as option
use native.Mathlib.Omega.{arith}
use borrow.Author.Tests.{ne_eqb}
use Rattle.turns.specs.declared.Answer.{Answer}
use Rattle.turns.specs.declared.Answer.TheVariants.{WentOn, Returned, Uncaught, Taken, Crowded, NotLive, StackShort, StackFull, WrongKind, NotHeld, StillHolds, CountFull, BadBundle, BadState}
use Rattle.turns.specs.Numbers.{answer_number}
use Rattle.turns.specs.declared.Stepped as code
use Rattle.turns.specs.Stepped.{Stepped, stepped_in}
use Rattle.history.specs.declared.Met as met
use Rattle.history.specs.Met.{Object, None, One, Met, object_answered, met_in}
use Rattle.holding.specs.Question.{Holding, holding_in}
use Rattle.told_apart.specs.Apart.{ToldApart, ToldApartBy, refuses_late}
use Rattle.told_apart.proofs.Inverse.{from-inverse, from-inverse-by}

-- ---- the table of answers
abbrev fault_back : ℕ → Answer
fault_back n =
    cond (eqb n 11) StackShort
    (cond (eqb n 12) StackFull
    (cond (eqb n 13) WrongKind
    (cond (eqb n 14) NotHeld
    (cond (eqb n 15) StillHolds
    (cond (eqb n 16) CountFull
    (cond (eqb n 17) BadBundle BadState))))))

abbrev answer_back : ℕ → Answer
answer_back n =
    cond (eqb n 0) WentOn
    (cond (eqb n 1) Returned
    (cond (eqb n 2) Uncaught
    (cond (eqb n 3) Taken
    (cond (eqb n 4) Crowded
    (cond (eqb n 5) NotLive
    (fault_back n))))))

answer-back : (a : Answer) → answer_back (answer_number a) ≡ a
answer-back WentOn = refl
answer-back Returned = refl
answer-back Uncaught = refl
answer-back Taken = refl
answer-back Crowded = refl
answer-back NotLive = refl
answer-back StackShort = refl
answer-back StackFull = refl
answer-back WrongKind = refl
answer-back NotHeld = refl
answer-back StillHolds = refl
answer-back CountFull = refl
answer-back BadBundle = refl
answer-back BadState = refl

pub answer_number-apart : ToldApart answer_number
answer_number-apart = from-inverse answer_number answer_back answer-back

-- ---- a step
abbrev stepped_back : Stepped → code.Stepped
stepped_back x = record { state = x.state; answer = answer_back x.answer }

stepped-back : (r : code.Stepped) → stepped_back (stepped_in r) ≡ r
stepped-back r = ap (λ a. record { state = r.state; answer = a }) (answer-back r.answer)

pub stepped_in-apart : ToldApart stepped_in
stepped_in-apart = from-inverse stepped_in stepped_back stepped-back

-- ---- what is held: an answer 0 without a number is told from Ok(0) by the second clause
abbrev holding_back : Holding → Result ℕ Answer
holding_back x = cond (eqb x.answer 0) (Ok x.number) (Err (answer_back x.answer))

holding-back : (r : Result ℕ Answer) → refuses_late r → holding_back (holding_in r) ≡ r
holding-back (Ok n) _ = refl
holding-back (Err a) late = ap (λ t. cond t (Ok 0) (Err (answer_back (answer_number a)))) (ne_eqb (answer_number a) 0 (omega arith)) ∙ ap Err (answer-back a)

pub holding_in-apart : ToldApartBy holding_in refuses_late
holding_in-apart = from-inverse-by holding_in refuses_late holding_back holding-back

-- ---- what a step meets
abbrev object_back : Object → Option ℕ
object_back None = option.None
object_back (One o) = option.Some o

object-back : (r : Option ℕ) → object_back (object_answered r) ≡ r
object-back option.None = refl
object-back (option.Some o) = refl

pub object_answered-apart : ToldApart object_answered
object_answered-apart = from-inverse object_answered object_back object-back

abbrev met_back : Met → met.Met
met_back x = record { instruction = x.instruction; object = object_back x.object }

met-back : (r : met.Met) → met_back (met_in r) ≡ r
met-back r = ap (λ o. record { instruction = r.instruction; object = o }) (object-back r.object)

pub met_in-apart : ToldApart met_in
met_in-apart = from-inverse met_in met_back met-back
