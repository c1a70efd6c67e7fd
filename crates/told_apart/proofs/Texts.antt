-- What is read of a class file and of a usage's text is told back.
use mathlib.Core.Path.{◌≡◌, refl}
use Rattle.std.specs.Prelude.{ℕ, cond, eqb, Result, Ok, Err}
use Rattle.classfile.specs.declared.Untaken.{Untaken}
use Rattle.classfile.specs.declared.Untaken.TheVariants.{Cut, Unknown, Stray, Long, Room}
use Rattle.classfile.specs.Taking.{Taken, taken_in}
use Rattle.usage_text.specs.declared.Reading as code
use Rattle.usage_text.specs.declared.Unread.{Unread}
use Rattle.usage_text.specs.declared.Unread.TheVariants.{TooLong, NotAUsage, TooDeep, OutOfRange}
use Rattle.usage_text.specs.Answer.{Reading, reading_in}
use Rattle.told_apart.specs.Apart.{ToldApart}
use Rattle.told_apart.proofs.Inverse.{from-inverse}

-- ---- instructions taken from a class file
abbrev taken_back : Taken → Result ℕ Untaken
taken_back x =
    cond (eqb x.number 0) (Ok x.offset)
    (cond (eqb x.number 30) (Err Cut)
    (cond (eqb x.number 31) (Err (Unknown x.offset))
    (cond (eqb x.number 32) (Err (Stray x.offset))
    (cond (eqb x.number 33) (Err (Long x.offset)) (Err (Room x.offset))))))

taken-back : (r : Result ℕ Untaken) → taken_back (taken_in r) ≡ r
taken-back (Ok n) = refl
taken-back (Err Cut) = refl
taken-back (Err (Unknown p)) = refl
taken-back (Err (Stray p)) = refl
taken-back (Err (Long p)) = refl
taken-back (Err (Room p)) = refl

pub taken_in-apart : ToldApart taken_in
taken_in-apart = from-inverse taken_in taken_back taken-back

-- ---- a usage read from its text
abbrev reading_back : Reading → Result code.Reading Unread
reading_back x =
    cond (eqb x.number 0) (Ok (record { dip = x.dip; end = x.end; reliable = x.reliable }))
    (cond (eqb x.number 40) (Err TooLong)
    (cond (eqb x.number 41) (Err NotAUsage)
    (cond (eqb x.number 42) (Err TooDeep) (Err OutOfRange))))

reading-back : (r : Result code.Reading Unread) → reading_back (reading_in r) ≡ r
reading-back (Ok x) = refl
reading-back (Err TooLong) = refl
reading-back (Err NotAUsage) = refl
reading-back (Err TooDeep) = refl
reading-back (Err OutOfRange) = refl

pub reading_in-apart : ToldApart reading_in
reading_in-apart = from-inverse reading_in reading_back reading-back
