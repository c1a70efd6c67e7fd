-- The document's numbers: of a refusal, of what a search found, and of a judgement.
use Rattle.std.specs.Prelude.{ℕ, Result, Ok, Err}
use Rattle.entries.specs.Shorts.{short_number}
use Rattle.verdicts.specs.declared.Why.{Why}
use Rattle.verdicts.specs.declared.Why.TheVariants.{Unmet, Misfit}
use Rattle.verdicts.specs.declared.Refusal.{Refusal}
use Rattle.verdicts.specs.declared.Refusal.TheVariants.{Length, Trailer, Directory, Limits, Extent, Descriptors, Instruction, Form, Rule, FirstRow, NoPairs, Overlap, Room, Order, Levels, Given}
use Rattle.verdicts.specs.declared.Verdict.{Verdict}
use Rattle.verdicts.specs.Verdicts.{verdict, rule_fails, pass}

-- 0 where something asked fails, otherwise the number of the first entry that fails (document 02, Q-1)
abbrev pub why_number : Why → ℕ
why_number Unmet = 0
why_number (Misfit s) = short_number s

abbrev pub numbers : Refusal → Verdict
numbers Length = verdict 1 0 0
numbers Trailer = verdict 2 0 0
numbers Directory = verdict 3 0 0
numbers (Limits c) = verdict 4 c 0
numbers (Extent c) = verdict 5 c 0
numbers (Descriptors c) = verdict 6 c 0
numbers (Instruction c l) = verdict 7 c l.0
numbers (Form c l) = verdict 8 c l.0
numbers (Rule c l w) = rule_fails c l.0 (why_number w)
numbers (FirstRow c) = verdict 10 c 0
numbers NoPairs = verdict 22 0 0
numbers Overlap = verdict 23 0 0
numbers Room = verdict 24 0 0
numbers (Order c l) = verdict 25 c l.0
numbers Levels = verdict 26 0 0
numbers Given = verdict 27 0 0

-- a search that finds nothing broken, or a refusal
abbrev pub found : Result Unit Refusal → Verdict
found (Ok _) = pass
found (Err r) = numbers r

-- the class count of what is accepted, or a refusal
abbrev pub judgement : Result ℕ Refusal → Verdict
judgement (Ok n) = verdict 0 n 0
judgement (Err r) = numbers r
