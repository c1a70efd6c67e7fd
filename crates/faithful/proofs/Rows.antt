-- The rows of the instruction at an offset, found in all that is written by its address.
use mathlib.Core.Path.{◌≡◌, sym, ◌∙◌, subst}
use mathlib.Core.Bool.{true}
use mathlib.Core.List.{List, [], ◌++◌, append_assoc, append-nil}
use Prim.Native.Nat.{ℕ, zero, suc, ◌+◌, ◌-◌, ◌≤◌, ◌<◌}
use native.Mathlib.Omega.{arith}
use lib.ListN.{length, get_or, get_or-append}
use lib.Seq.{get_or-append-add}
use Rattle.ground.specs.Lists.{each}
use Rattle.instructions.specs.declared.Code.{Code}
use Rattle.java.specs.Instructions.{java_at, size_at, gives_of}
use Rattle.java.proofs.Sizes.{size-pos, size_fits}
use Rattle.offsets.specs.Offsets.{begins, count_to, total}
use Rattle.offsets.proofs.Offsets.{count_next, count-grows}
use Rattle.classfile.specs.Written.{rows_of, rows_at, rows_to}
use Rattle.classfile.proofs.Laid.{rows_next, rows-length, count-in-rows}

module _ (classes code table : List ℕ) where
  -- what stands before an offset is what all begin with
  more : (p j : ℕ) → (rest : List Code) × (rows_to classes code table (p + j) ≡ rows_to classes code table p ++ rest)
  unfolding rows_to each
  more p zero = let e : p + 0 ≡ p = omega arith in ([], rw e (sym (append-nil (rows_to classes code table p))))
  more p (suc j) =
      let e : p + suc j ≡ suc (p + j) = omega arith in
      let h = more p j in
      (h.0 ++ rows_at classes code table (p + j), rw (e, h.1) (append_assoc (rows_to classes code table p) h.0 (rows_at classes code table (p + j))))

  upto : (p q : ℕ) → p ≤ q → (rest : List Code) × (rows_to classes code table q ≡ rows_to classes code table p ++ rest)
  upto p q l =
      let h = more p (q - p) in
      let e : p + (q - p) ≡ q = omega arith in
      (h.0, subst (λ (n : ℕ). rows_to classes code table n ≡ rows_to classes code table p ++ h.0) e h.1)

  pub rows-at : (p j : ℕ) (d : Code) → p < length code → begins code p ≡ true → j < gives_of (java_at code p)
      → get_or (rows_to classes code table (length code)) (count_to code p + j) d ≡ get_or (rows_of classes code table p (java_at code p)) j d
  rows-at p j d l b k =
      let h = upto (p + size_at code p) (length code) (size_fits code p l) in
      let R = rows_to classes code table p in
      let A = rows_of classes code table p (java_at code p) in
      let a : length A ≡ gives_of (java_at code p) = rows-length classes code table p (java_at code p) in
      rw (h.1, rows_next classes code table p b, append_assoc R A h.0, ← count-in-rows classes code table p)
      (get_or-append-add R (A ++ h.0) j d ∙ get_or-append A h.0 d j (omega arith))

  -- the address behind it
  pub next_address : (p : ℕ) → begins code p ≡ true → count_to code (p + size_at code p) ≡ count_to code p + gives_of (java_at code p)
  next_address p b = count_next code p (p + size_at code p) b (omega (arith, size-pos code p)) (omega arith)

  pub address-in : (p j : ℕ) → p < length code → begins code p ≡ true → j < gives_of (java_at code p) → count_to code p + j < total code
  unfolding total
  address-in p j l b k = omega (arith, next_address p b, count-grows code (p + size_at code p) (length code) (size_fits code p l))
