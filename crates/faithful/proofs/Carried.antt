-- THEOREM: the instructions that a record's reader finds in what `take` wrote are the rows that were written.
use mathlib.Core.Path.{◌≡◌, refl, ◌∙◌, ap}
use mathlib.Core.List.{List, [], ◌∷◌, ◌++◌}
use Prim.Native.Nat.{ℕ, zero, suc, ◌+◌, ◌-◌, ◌*◌, ◌<◌}
use native.Mathlib.Nat.{div-add-mod', not-suc-le-zero}
use native.Mathlib.Omega.{arith}
use lib.ListN.{length, get_or}
use borrow.Author.Tests.{le-leb, eq-eqb}
use Rattle.ground.specs.Bytes.{at}
use Rattle.ground.specs.Chain.{refuse}
use Rattle.instructions.specs.declared.Code.{Code}
use Rattle.instructions.specs.Table.{decoded}
use Rattle.bundle.specs.Container.{class_at, part_of, descriptor_count, instruction_place, code_from, code_at, instruction_at}
use Rattle.bundle.specs.Program.{method_of, method_at, program_of}
use Rattle.offsets.specs.Offsets.{total}
use Rattle.classfile.specs.Attribute.{code_of, table_of}
use Rattle.classfile.specs.Written.{row, rows_to, bytes_of, laid_over}
use Rattle.classfile.specs.Taking.{taken_of, bytes_taken, left, out_of}
use Rattle.classfile.proofs.Laid.{count-in-rows}
use Rattle.faithful.specs.Faithful.{Carried}

past-four : (a b c d : ℕ) (l : List ℕ) (n k : ℕ) → at (a ∷ b ∷ c ∷ d ∷ l) (4 * suc n + k) ≡ at l (4 * n + k)
past-four a b c d l n k = let e : 4 * suc n + k ≡ suc (suc (suc (suc (4 * n + k)))) = omega arith in rw e

module _ (rest : List ℕ) where
  abbrev all : List Code → List ℕ
  all xs = bytes_of xs ++ rest

  read_one : (xs : List Code) (n : ℕ) → n < length xs
      → (at (all xs) (4 * n + 0) ≡ (get_or xs n (row 0 0 0)).opcode) × (at (all xs) (4 * n + 1) ≡ (get_or xs n (row 0 0 0)).operand)
      × (at (all xs) (4 * n + 2) * 256 + at (all xs) (4 * n + 3) ≡ (get_or xs n (row 0 0 0)).address)
  unfolding bytes_of
  read_one [] n h = absurd (not-suc-le-zero h)
  read_one (x ∷ xs) zero h = (refl, refl, div-add-mod' x.address 256)
  read_one (x ∷ xs) (suc n) h =
      rw (past-four _ _ _ _ (all xs) n 0, past-four _ _ _ _ (all xs) n 1, past-four _ _ _ _ (all xs) n 2, past-four _ _ _ _ (all xs) n 3) (read_one xs n (omega arith))

  read_back : (xs : List Code) (n : ℕ) → n < length xs → code_from (all xs) (4 * n) ≡ get_or xs n (row 0 0 0)
  unfolding code_from
  read_back xs n h =
      let e : 4 * n + 0 ≡ 4 * n = omega arith in
      let f : 4 * n + 2 + 1 ≡ 4 * n + 3 = omega arith in
      let k = rw e at (read_one xs n h) in
      rw (f, k.0, k.1, k.2)

-- after success, the four bytes at place 4n of the buffer are row n
buffer-has : (a classes out : List ℕ) → (taken_of a classes (length out)).number ≡ 0 → (n : ℕ) → n < total (code_of a)
    → code_from (out_of a classes out) (4 * n) ≡ get_or (rows_to classes (code_of a) (table_of a) (length (code_of a))) n (row 0 0 0)
unfolding out_of left bytes_taken laid_over total
buffer-has a classes out e n h =
    rw (eq-eqb (taken_of a classes (length out)).number 0 e)
    (read_back _ (rows_to classes (code_of a) (table_of a) (length (code_of a))) n (rw (count-in-rows classes (code_of a) (table_of a) (length (code_of a))) h))

-- the instruction at address n + 1 of class c
instruction-is : (b : List ℕ) (c n : ℕ) → n < (class_at b c).code
    → ((program_of b).method c).instruction (n + 1) ≡ decoded (code_from (part_of b (class_at b c)) (descriptor_count (class_at b c) + 4 * n))
unfolding program_of method_at method_of instruction_at code_at refuse instruction_place
instruction-is b c n h =
    let e : n + 1 - 1 ≡ n = omega arith in
    rw (le-leb 1 (n + 1) (omega arith), le-leb (n + 1) (class_at b c).code (omega arith), e)

-- THEOREM: a class whose record carries what was written holds it
pub carried : Carried
carried b c a classes out h =
    record {
      row_at = λ n l. instruction-is b c n (rw h.length_k l) ∙ ap decoded (h.bytes n l ∙ buffer-has a classes out h.success n l);
    }
