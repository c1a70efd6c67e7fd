-- A code of n iconst_0: each is one byte and one instruction, so the answer is known without a walk.
use mathlib.Core.Path.{◌≡◌, refl}
use mathlib.Core.Bool.{true}
use mathlib.Core.List.{List, [], map}
use Prim.Native.Nat.{ℕ, zero, suc, ◌+◌, ◌/◌, ◌≤◌, ◌<◌}
use native.Mathlib.Omega.{arith}
use lib.ListN.{length, replicate, length-replicate, get_or-replicate}
use borrow.Author.Tests.{le-leb, lt-leb, lt-ltb, le-ltb}
use Rattle.ground.specs.Bytes.{at, quad}
use Rattle.ground.specs.Bounded.{first_below, sum_below}
use Rattle.ground.specs.Chain.{refuse}
use Rattle.ground.proofs.Bounded.{first-at, first-none}
use Rattle.java.specs.declared.Java.TheVariants.{Iconst0}
use Rattle.java.specs.Opcodes.{java_of, width_of}
use Rattle.java.specs.Instructions.{raw_at, raw_size, uncut, java_at, size_at}
use Rattle.offsets.specs.Offsets.{left_at, begins, gives_at, count_to, total}
use Rattle.offsets.specs.Targets.{stray_at, first_stray, first_stray_entry}
use Rattle.offsets.specs.Offenders.{unknown_at, first_unknown, past_at, first_past}
use Rattle.classfile.specs.Taking.{Taken}
use Rattle.classfile.specs.Attribute.{table_end, whole, code_of, table_of}
use Rattle.classfile.specs.Taking.{taken, judged, taken_of}
use Rattle.classfile.specs.Cases.{Many, constants, manies}

module _ (n : ℕ) where
  abbrev code : List ℕ
  code = replicate n 3

  here : (p : ℕ) → p < n → at code p ≡ 3
  here p l = get_or-replicate {A = ℕ} n p 3 0 l

  size : length code ≡ n
  size = length-replicate {A = ℕ} n 3

  uncut-at : (p : ℕ) → p < n → uncut code p ≡ true
  unfolding uncut raw_size raw_at java_of width_of
  uncut-at p l = rw (here p l, size) (le-leb (p + 1) n (omega arith))

  java-is : (p : ℕ) → p < n → java_at code p ≡ Iconst0
  unfolding java_at refuse raw_at java_of
  java-is p l = rw (uncut-at p l, here p l)

  size_is : (p : ℕ) → p < n → size_at code p ≡ 1
  unfolding size_at refuse raw_size raw_at java_of width_of
  size_is p l = rw (uncut-at p l, here p l)

  left_is : (p : ℕ) → p ≤ n → left_at code p ≡ 0
  unfolding left_at
  left_is zero l = refl
  left_is (suc p) l = rw (left_is p (omega arith), size_is p (omega arith))

  begins-is : (p : ℕ) → p ≤ n → begins code p ≡ true
  unfolding begins
  begins-is p l = rw (left_is p l)

  count-is : (p : ℕ) → p ≤ n → count_to code p ≡ p
  unfolding count_to sum_below gives_at
  count-is zero l = refl
  count-is (suc p) l =
      let e = count-is p (omega arith) in
      rw (e, begins-is p (omega arith), java-is p (omega arith)) (omega arith)

  total-is : total code ≡ n
  unfolding total
  total-is = rw (size) (count-is n (omega arith))

  none-unknown : (classes : List ℕ) → first_unknown classes code ≡ length code
  unfolding first_unknown unknown_at
  none-unknown classes =
      first-none (length code) (unknown_at classes code) (λ p l. let k : p < n = omega (arith, size) in rw (begins-is p (omega arith), java-is p k))

  none-stray : first_stray code ≡ length code
  unfolding first_stray stray_at
  none-stray =
      first-none (length code) (stray_at code) (λ p l. let k : p < n = omega (arith, size) in rw (begins-is p (omega arith), java-is p k))

  past_is : (limit : ℕ) → limit < n → first_past code limit ≡ limit
  unfolding first_past past_at
  past_is limit l =
      first-at (length code) (past_at code limit) limit (omega (arith, size))
      (λ p k. rw (count-is (p + 1) (omega arith)) (le-ltb limit (p + 1) (omega arith)))
      (rw (count-is (limit + 1) (omega arith)) (lt-ltb limit (limit + 1) (omega arith)))

  module _ (classes : List ℕ) (room : ℕ) where
    fits : n ≤ 256 → n ≤ room / 4 → judged classes code [] room ≡ taken 0 n
    unfolding judged refuse first_stray_entry first_below
    fits h k = rw (none-unknown classes, none-stray, le-leb (length code) (length code) (omega arith), total-is, le-leb n 256 h, le-leb n (room / 4) k)

    too_short : n ≤ 256 → room / 4 < n → judged classes code [] room ≡ taken 34 (room / 4)
    unfolding judged refuse first_stray_entry first_below
    too_short h k =
        rw (none-unknown classes, none-stray, le-leb (length code) (length code) (omega arith), total-is, le-leb n 256 h, lt-leb n (room / 4) k, past_is (room / 4) k)

    too_many : 256 < n → judged classes code [] room ≡ taken 33 256
    unfolding judged refuse first_stray_entry first_below
    too_many h =
        rw (none-unknown classes, none-stray, le-leb (length code) (length code) (omega arith), total-is, lt-leb n 256 h, past_is 256 h)

-- ---- in an attribute
record Read (n : ℕ) : Type 0 where
  whole_is : whole (constants n) ≡ true
  code_is : code_of (constants n) ≡ replicate n 3
  table_is : table_of (constants n) ≡ []

read-256 : Read 256
unfolding whole code_of table_of table_end quad
read-256 = record { whole_is = refl; code_is = refl; table_is = refl }

read-257 : Read 257
unfolding whole code_of table_of table_end quad
read-257 = record { whole_is = refl; code_is = refl; table_is = refl }

read-300 : Read 300
unfolding whole code_of table_of table_end quad
read-300 = record { whole_is = refl; code_is = refl; table_is = refl }

answered : (n room : ℕ) (a : Taken) → Read n → judged [] (replicate n 3) [] room ≡ a → taken_of (constants n) [] room ≡ a
unfolding taken_of refuse
answered n room a h e = rw (h.whole_is, h.code_is, h.table_is) e

pub manies-hold : map (λ (m : Many). taken_of (constants m.count) [] m.room) manies ≡ map (λ (m : Many). m.answer) manies
manies-hold =
    rw (
      answered 256 1024 (taken 0 256) read-256 (fits 256 [] 1024 (omega arith) (omega arith)),
      answered 256 1023 (taken 34 255) read-256 (too_short 256 [] 1023 (omega arith) (omega arith)),
      answered 256 3 (taken 34 0) read-256 (too_short 256 [] 3 (omega arith) (omega arith)),
      answered 257 1028 (taken 33 256) read-257 (too_many 257 [] 1028 (omega arith)),
      answered 257 1024 (taken 33 256) read-257 (too_many 257 [] 1024 (omega arith)),
      answered 257 1023 (taken 33 256) read-257 (too_many 257 [] 1023 (omega arith)),
      answered 257 0 (taken 33 256) read-257 (too_many 257 [] 0 (omega arith)),
      answered 300 65535 (taken 33 256) read-300 (too_many 300 [] 65535 (omega arith)),
    )
