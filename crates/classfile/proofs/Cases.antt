-- The cases, by computation: a list, a statement.
use mathlib.Core.Path.{◌≡◌, refl}
use mathlib.Core.List.{List, map}
use Prim.Native.Nat.{ℕ}
use native.Mathlib.Omega.{arith}
use lib.ListN.{length}
use borrow.Author.Tests.{lt-ltb}
use Rattle.ground.specs.Bytes.{quad}
use Rattle.ground.specs.Bounded.{first_below, sum_below}
use Rattle.ground.specs.Chain.{refuse}
use Rattle.ground.specs.Lists.{each}
use Rattle.java.specs.Opcodes.{short, aload_of, iinc_of, java_of, width_of}
use Rattle.java.specs.Instructions.{raw_at, raw_size, uncut, java_at, size_at}
use Rattle.java.specs.Classes.{is_index, class_number}
use Rattle.offsets.specs.Offsets.{left_at, begins, gives_at, count_to, total}
use Rattle.offsets.specs.Handlers.{handler_of, covers, covered_by}
use Rattle.offsets.specs.Targets.{target_of, lands, stray_at, first_stray, stray_entry, first_stray_entry}
use Rattle.offsets.specs.Offenders.{unknown_at, first_unknown, past_at, first_past}
use Rattle.classfile.specs.Taking.{Taken}
use Rattle.classfile.specs.Attribute.{table_end, whole, code_of, table_of}
use Rattle.classfile.specs.Written.{handler_by, rows_of, rows_at, rows_to, bytes_of, laid_over}
use Rattle.classfile.specs.Taking.{judged, taken_of, bytes_taken, left, out_of}
use Rattle.classfile.specs.Cases.{fresh, Case, from, firsts, cases, Far}

-- what is answered, and what every byte of the buffer holds then
pub record Given : Type 0 where
  pub answer : Taken
  pub out : List ℕ

abbrev given : Case → Given
given c = record { answer = taken_of c.input c.classes c.room; out = out_of c.input c.classes (fresh c.room) }

pub cases-hold : map given cases ≡ map (λ (c : Case). record { answer = c.answer; out = c.out }) cases
unfolding quad first_below sum_below refuse each short aload_of iinc_of java_of width_of raw_at raw_size uncut java_at size_at is_index class_number left_at begins gives_at count_to total handler_of covers covered_by target_of lands stray_at first_stray stray_entry first_stray_entry unknown_at first_unknown past_at first_past table_end whole code_of table_of handler_by rows_of rows_at rows_to bytes_of laid_over judged taken_of bytes_taken left out_of from firsts
cases-hold = refl

pub far : Far
unfolding target_of refuse
far code l =
    rw (lt-ltb 40000 (length code) l, lt-ltb 32768 (length code) (omega arith), lt-ltb 32767 (length code) (omega arith)) (refl, refl, refl, refl, refl)
