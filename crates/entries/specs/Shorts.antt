-- The numbers of a comparison: 1 to 3 of an entry that falls short, 0 of one that fits.
use Rattle.std.specs.Prelude.{ℕ, Result, Ok, Err}
use Rattle.entries.specs.declared.Short.{Short}
use Rattle.entries.specs.declared.Short.TheVariants.{Kind, Dip, End}

-- kind or class differs, dip too small, end too small
abbrev pub short_number : Short → ℕ
short_number Kind = 1
short_number Dip = 2
short_number End = 3

abbrev pub short_in : Result Unit Short → ℕ
short_in (Ok _) = 0
short_in (Err s) = short_number s
