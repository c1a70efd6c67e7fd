-- A choice of b reads as b does, pairs aside: the same directory, descriptors, instructions and depths; the entries of two choices differ in their pairs only.
use mathlib.Core.List.{List}
use mathlib.Core.Path.{◌≡◌, sym, ap, ◌∙◌}
use Prim.Native.Nat.{ℕ, ◌+◌, ◌*◌, ◌-◌, ◌≤◌, ◌<◌}
use native.Mathlib.Omega.{arith}
use lib.ListN.{length}
use borrow.Author.Tests.{le-leb, lt-ltb, le-ltb}
use Rattle.ground.specs.Bytes.{at}
use Rattle.ground.specs.Chain.{refuse}
use Rattle.bundle.specs.declared.Class.{Class}
use Rattle.bundle.specs.Container.{directory_at, classes, exception, head_at, class_at, width, descriptor_count, size, part_of, instruction_place, code_from, code_at}
use Rattle.entries.specs.Entries.{Ref, max_dip, min_end, max_end, pair_ok, entry_of}
use Rattle.rows.specs.Rows.{row_start, entry_at, depth_at, variable_at, stack_at}
use Rattle.shape.specs.PairBytes.{behind, place_in, place_of, depth_of, Reference, PairByte}
use Rattle.shape.specs.Apart.{Readable}
use Rattle.shape.proofs.Places.{place-high, depth-high}
use Rattle.shape.proofs.Readable.{part-byte, part-long, extent, not-trailer, not-directory, not_code, not-depth, at_entry}
use Rattle.choices.specs.Choice.{Alike}

-- ---- entries by their bytes
module _ (n : ℕ) where
  -- a reference, as its bytes have it
  pub reference-is : (c d e : ℕ) → c < n → d ≤ max_dip → min_end ≤ e → e ≤ max_end → entry_of n 3 c d e ≡ Ref c d e
  unfolding entry_of pair_ok refuse
  reference-is c d e h i j k = rw (lt-ltb c n h, le-leb d max_dip i, le-leb min_end e j, le-leb e max_end k)

module _ (b : List ℕ) (R : Readable b) (x : List ℕ) (C : Alike b x) where
  -- ---- the trailer and the directory
  pub trailer-same : (p : ℕ) → length b - 8 ≤ p → at x p ≡ at b p
  trailer-same p h = C.others p (not-trailer b R p h)

  directory-same : (p : ℕ) → directory_at b ≤ p → p < directory_at b + 8 * classes b → at x p ≡ at b p
  directory-same p h k = C.others p (not-directory b R p h k)

  pub classes-same : classes x ≡ classes b
  classes-same = rw C.long (trailer-same (length b - 6) (omega arith))

  pub exception-same : exception x ≡ exception b
  exception-same = rw C.long (trailer-same (length b - 5) (omega arith))

  pub directory-at-same : directory_at x ≡ directory_at b
  directory-at-same = rw (C.long, trailer-same (length b - 8) (omega arith), trailer-same (length b - 8 + 1) (omega arith))

  pub class_same : (c : ℕ) → c < classes b → class_at x c ≡ class_at b c
  unfolding class_at head_at
  class_same c l =
      rw (
        directory-at-same,
        directory-same (directory_at b + 8 * c) (omega arith) (omega arith),
        directory-same (directory_at b + 8 * c + 1) (omega arith) (omega arith),
        directory-same (directory_at b + 8 * c + 2) (omega arith) (omega arith),
        directory-same (directory_at b + 8 * c + 3) (omega arith) (omega arith),
        directory-same (directory_at b + 8 * c + 4) (omega arith) (omega arith),
        directory-same (directory_at b + 8 * c + 5) (omega arith) (omega arith),
        directory-same (directory_at b + 8 * c + 6) (omega arith) (omega arith),
        directory-same (directory_at b + 8 * c + 6 + 1) (omega arith) (omega arith),
      )

  module _ (c : ℕ) (lc : c < classes b) where
    abbrev k : Class
    k = class_at b c

    abbrev r : List ℕ
    r = part_of x k

    extent-x : k.offset + size k ≤ length x - 8
    extent-x = rw C.long (extent b R c lc)

    pub byte-x : (q : ℕ) → q < size k → at r q ≡ at x (k.offset + q)
    byte-x = part-byte x k extent-x

    byte-b : (q : ℕ) → q < size k → at (part_of b k) q ≡ at b (k.offset + q)
    byte-b = part-byte b k (extent b R c lc)

    -- descriptors and instructions
    pub code_same : (q : ℕ) → q < descriptor_count k + 4 * k.code → at r q ≡ at (part_of b k) q
    unfolding size
    code_same q h =
        let l : q < descriptor_count k + 4 * k.code + k.code * width k = omega arith in
        byte-x q l ∙ C.others _ (not_code b R c lc q h l) ∙ sym (byte-b q l)

    pub instruction-same : (l : ℕ) → 1 ≤ l → l ≤ k.code → code_at k r l ≡ code_at k (part_of b k) l
    unfolding code_at code_from instruction_place
    instruction-same l low high =
        rw (
          code_same (descriptor_count k + 4 * (l - 1)) (omega arith),
          code_same (descriptor_count k + 4 * (l - 1) + 1) (omega arith),
          code_same (descriptor_count k + 4 * (l - 1) + 2) (omega arith),
          code_same (descriptor_count k + 4 * (l - 1) + 2 + 1) (omega arith),
        )

    pub depth_same : (l : ℕ) → 1 ≤ l → l ≤ k.code → depth_at r (row_start k l) k.vars ≡ depth_of b c l
    unfolding depth_at depth_of
    depth_same l low high =
        let h = depth-high k l low high in
        byte-x _ h ∙ C.others _ (not-depth b R c lc l low high) ∙ sym (byte-b _ h)

    module _ (l : ℕ) (low : 1 ≤ l) (high : l ≤ k.code) where
      -- ---- entry s
      abbrev P : ℕ → ℕ
      P s = place_of b c l s

      pub entry-x : (n s : ℕ) → s < k.vars + k.limit → entry_at n r (place_in k l s) ≡ entry_of n (at x (P s)) (at x (P s + 1)) (at x (P s + 2)) (at x (P s + 3))
      unfolding entry_at place_of refuse
      entry-x n s h =
          let t0 = place-high k l low high s 0 h (omega arith) in
          let t1 = place-high k l low high s 1 h (omega arith) in
          let t2 = place-high k l low high s 2 h (omega arith) in
          let t3 = place-high k l low high s 3 h (omega arith) in
          let e0 : at r (place_in k l s) ≡ at x (k.offset + place_in k l s) = byte-x (place_in k l s) (omega arith) in
          let e1 : at r (place_in k l s + 1) ≡ at x (k.offset + place_in k l s + 1) = byte-x (place_in k l s + 1) t1 ∙ ap (at x) (omega arith) in
          let e2 : at r (place_in k l s + 2) ≡ at x (k.offset + place_in k l s + 2) = byte-x (place_in k l s + 2) t2 ∙ ap (at x) (omega arith) in
          let e3 : at r (place_in k l s + 3) ≡ at x (k.offset + place_in k l s + 3) = byte-x (place_in k l s + 3) t3 ∙ ap (at x) (omega arith) in
          rw (part-long x k extent-x, lt-ltb (place_in k l s + 3) (size k) t3, e0, e1, e2, e3)

      -- kind and class are b's; and all four bytes are where the entry is no reference
      pub kind-same : (s : ℕ) → s < k.vars + k.limit → at x (P s) ≡ at b (P s)
      kind-same s h = C.others (P s) (λ y. let z : PairByte b (P s + 0) = rw (zero_more (P s)) y in let w = at_entry b R c lc l low high s 0 h (omega arith) z in omega (arith, w.1))
        where
          zero_more : (p : ℕ) → p + 0 ≡ p
          zero_more p = omega arith

      pub kind-class-same : (s : ℕ) → s < k.vars + k.limit → at x (P s + 1) ≡ at b (P s + 1)
      kind-class-same s h = C.others (P s + 1) (λ y. let w = at_entry b R c lc l low high s 1 h (omega arith) y in omega (arith, w.1))

      pub plain-same : (s t : ℕ) → s < k.vars + k.limit → t < 4 → (Reference b c l s → ⊥) → at x (P s + t) ≡ at b (P s + t)
      plain-same s t h ht f = C.others (P s + t) (λ y. f (at_entry b R c lc l low high s t h ht y).0)

      -- where the row's entries stand
      pub variable-x : (n i : ℕ) → i < k.vars → variable_at n r (row_start k l) i ≡ entry_at n r (place_in k l i)
      unfolding variable_at place_in behind
      variable-x n i h = let e : 4 * i + 0 ≡ 4 * i = omega arith in rw (lt-ltb i k.vars h, e)

      pub stack-x : (n j : ℕ) → j < k.limit → stack_at n k r (row_start k l) j ≡ entry_at n r (place_in k l (k.vars + j))
      unfolding stack_at place_in behind refuse
      stack-x n j h =
          let e : row_start k l + 4 * k.vars + 1 + 4 * j ≡ row_start k l + (4 * (k.vars + j) + 1) = omega arith in
          rw (lt-ltb j k.limit h, le-ltb (k.vars + j) k.vars (omega arith), e)

      -- an entry that is no reference in use is b's
      pub entry-b : (n s : ℕ) → s < k.vars + k.limit → (Reference b c l s → ⊥)
          → entry_of n (at x (P s)) (at x (P s + 1)) (at x (P s + 2)) (at x (P s + 3)) ≡ entry_of n (at b (P s)) (at b (P s + 1)) (at b (P s + 2)) (at b (P s + 3))
      entry-b n s h f = rw (kind-same s h, kind-class-same s h, plain-same s 2 h (omega arith) f, plain-same s 3 h (omega arith) f)
