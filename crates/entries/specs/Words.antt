-- An entry's four bytes as the one number that the code compares. No rule speaks of it.
use Rattle.std.specs.Prelude.{ℕ, ◌/◌, ◌%◌}
use Rattle.entries.specs.Entries.{Entry, entry_of}

-- the entry whose four bytes, the first the highest, make the number w
unfoldable pub entry_from : ℕ → ℕ → Entry
entry_from n w = entry_of n (w / 16777216) (w / 65536 % 256) (w / 256 % 256) (w % 256)
