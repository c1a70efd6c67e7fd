-- What the C call on a usage's text gives: its numbers as one.
use Rattle.std.specs.Prelude.{Bool, cond, ℕ, ◌+◌, ◌*◌, ◌≤◌, ℤ, pos, nat_abs, ◌+ℤ◌}
use Rattle.usage_text.specs.Answer.{Reading}

-- an end as an entry keeps it, with 64 added; no end that is answered is below −63
abbrev pub end_byte : ℤ → ℕ
end_byte e = nat_abs (e +ℤ pos 64)

abbrev pub InByte : ℤ → Type 0
InByte e = nat_abs e ≤ 63

abbrev pub flag : Bool → ℕ
flag b = cond b 1 0

-- the number in the low byte, the dip in the next, the end in the third, reliable in the fourth
abbrev pub packed_usage : Reading → ℕ
packed_usage r = r.number + 256 * r.dip + 65536 * end_byte r.end + 16777216 * flag r.reliable
