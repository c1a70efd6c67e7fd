-- Histories and what they say, by computation.
use mathlib.Core.Path.{refl}
use Rattle.machine.specs.Runs.{run}
use Rattle.history.specs.Reading.{starts, ends, enters, exits, taken, live_then, live_after, begins, since_start, number}
use Rattle.history.specs.Meeting.{object_met, code_here, instruction_met}
use Rattle.examples.specs.Histories.{HistoriesHold}
use Rattle.examples.proofs.Answered.{answered}

pub histories-hold : HistoriesHold
unfolding answered run starts ends enters exits taken live_then live_after begins since_start number object_met code_here instruction_met
histories-hold = refl
