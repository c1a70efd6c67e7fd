-- Q-11: what is answered for a text. specs/Meaning.antt says the same without the reader and without appendix A.
use Rattle.std.specs.Prelude.{List, Bool, false, ◌&&◌, ℕ, ◌+◌, eqb, leb, length, ℤ, pos, nat_abs, ◌-ℤ◌, Result, Ok, Err}
use Rattle.ground.specs.Chain.{refuse}
use Rattle.usages.specs.Usage.{Usage}
use Rattle.usages.specs.Counts.{min_of, fin_of}
use Rattle.usage_text.specs.Reading.{Read, unread, read, read_text, is_whole}
use Rattle.usage_text.specs.declared.Weight.{Weight}
use Rattle.usage_text.specs.declared.Reading as code
use Rattle.usage_text.specs.declared.Unread.{Unread}
use Rattle.usage_text.specs.declared.Unread.TheVariants.{TooLong, NotAUsage, TooDeep, OutOfRange}

-- what is answered: a refusal's number or 0, dip, end, and whether the usage is reliable
pub record Reading : Type 0 where
  pub number : ℕ
  pub dip : ℕ
  pub end : ℤ
  pub reliable : Bool

-- "a text of at most 256 bytes"
abbrev pub longest : ℕ
longest = 256

-- "brackets nested at most 16 deep"
abbrev pub deepest : ℕ
deepest = 16

-- no usage of 256 bytes has brackets nested deeper
abbrev pub any_depth : ℕ
any_depth = 127

-- "the entry's range": an entry's dip is 0..63, its end −63..63
abbrev pub widest : ℕ
widest = 63

-- "its dip .. by the paper's appendix A": −Min, where Min is 0 or less
unfoldable pub dip_of : Usage → ℕ
dip_of u = nat_abs (min_of u)

unfoldable pub in_range : Usage → Bool
in_range u = leb (dip_of u) widest && leb (nat_abs (fin_of u)) widest

-- "and whether it is reliable": Min = Fin = 0
unfoldable pub is_reliable : Usage → Bool
is_reliable u = eqb (nat_abs (min_of u)) 0 && eqb (nat_abs (fin_of u)) 0

-- "dip and end are then 0, reliable no"
abbrev pub refusal : ℕ → Reading
refusal n = record { number = n; dip = 0; end = pos 0; reliable = false }

-- "Give its dip and end by the paper's appendix A, and whether it is reliable"
abbrev pub told : Usage → Reading
told u = record { number = 0; dip = dip_of u; end = fin_of u; reliable = is_reliable u }

unfoldable pub weighed : Read → Reading
weighed unread = refusal 41
weighed (read u r) = refuse (in_range u) (refusal 43) (told u)

-- "Refusals: 40 too long, 41 not a usage (empty included), 42 too deep, 43 dip or end outside the entry's range; lowest number first"
unfoldable pub usage_of : List ℕ → Reading
usage_of s =
    refuse (leb (length s) longest) (refusal 40)
    (refuse (is_whole (read_text any_depth s)) (refusal 41)
    (refuse (is_whole (read_text deepest s)) (refusal 42)
    (weighed (read_text deepest s))))

-- ---- the same by what the code gives
abbrev pub unread_number : Unread → ℕ
unread_number TooLong = 40
unread_number NotAUsage = 41
unread_number TooDeep = 42
unread_number OutOfRange = 43

abbrev pub reading_in : Result code.Reading Unread → Reading
reading_in (Ok r) = record { number = 0; dip = r.dip; end = r.end; reliable = r.reliable }
reading_in (Err e) = refusal (unread_number e)

abbrev pub end_of : ℕ → ℕ → ℤ
end_of dip rise = pos rise -ℤ pos dip

-- no end is below −dip
unfoldable pub answer_of : Weight → Reading
answer_of w =
    refuse (leb w.dip widest) (refusal 43)
    (refuse (leb w.rise (w.dip + widest)) (refusal 43)
    (record { number = 0; dip = w.dip; end = end_of w.dip w.rise; reliable = eqb w.dip 0 && eqb w.rise 0 }))
