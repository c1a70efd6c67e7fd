-- The numbers of document 01's table of answers.
use Rattle.std.specs.Prelude.{ℕ}
use Rattle.turns.specs.declared.Answer.{Answer}
use Rattle.turns.specs.declared.Answer.TheVariants.{WentOn, Returned, Uncaught, Taken, Crowded, NotLive, StackShort, StackFull, WrongKind, NotHeld, StillHolds, CountFull, BadBundle, BadState}

abbrev pub answer_number : Answer → ℕ
answer_number WentOn = 0
answer_number Returned = 1
answer_number Uncaught = 2
answer_number Taken = 3
answer_number Crowded = 4
answer_number NotLive = 5
answer_number StackShort = 11
answer_number StackFull = 12
answer_number WrongKind = 13
answer_number NotHeld = 14
answer_number StillHolds = 15
answer_number CountFull = 16
answer_number BadBundle = 17
answer_number BadState = 18
