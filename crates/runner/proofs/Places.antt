-- Where an instruction stands in the bundle.
use mathlib.Core.List.{List}
use mathlib.Core.Path.{◌≡◌, ap}
use mathlib.Core.Bool.{true}
use Prim.Native.Nat.{ℕ, ◌+◌, ◌*◌, ◌-◌, ◌<◌, ◌≤◌}
use lib.ListN.{length}
use native.Mathlib.Omega.{arith}
use borrow.Author.Tests.{leb-true, le-leb}
use Rattle.ground.specs.Bytes.{at, part}
use Rattle.ground.specs.Chain.{refuse}
use Rattle.ground.proofs.Bytes.{part_at}
use Rattle.instructions.specs.Table.{decoded}
use Rattle.bundle.specs.declared.Class.{Class}
use Rattle.bundle.specs.Container.{class_at, descriptor_count, size, record_fits, part_of, instruction_place, code_from, code_at, instruction_at}
use Rattle.bundle.specs.Program.{method_of, method_at, program_of}

module _ (b : List ℕ) (k : Class) (l : ℕ) (f : record_fits b k ≡ true) (l₁ : 1 ≤ l) (l₂ : l ≤ k.code) where
  within : k.offset + size k ≤ length b - 8
  unfolding record_fits
  within = leb-true _ _ f

  room : descriptor_count k + 4 * (l - 1) + 4 ≤ size k
  unfolding size
  room = omega arith

  -- the whole instruction lies in the bundle
  pub code-within : k.offset + descriptor_count k + 4 * (l - 1) + 3 < length b
  code-within = omega (arith, within, room)

  shifted : (q : ℕ) → q < size k → at (part b k.offset (k.offset + size k)) q ≡ at b (k.offset + q)
  shifted q m = part_at b k.offset (k.offset + size k) q (omega arith)

  code-there : code_from b (k.offset + descriptor_count k + 4 * (l - 1)) ≡ code_at k (part_of b k) l
  unfolding code_at code_from part_of instruction_place refuse
  code-there =
      let e₀ : k.offset + descriptor_count k + 4 * (l - 1) ≡ k.offset + (descriptor_count k + 4 * (l - 1)) = omega arith in
      let e₁ : k.offset + (descriptor_count k + 4 * (l - 1)) + 1 ≡ k.offset + (descriptor_count k + 4 * (l - 1) + 1) = omega arith in
      let e₂ : k.offset + (descriptor_count k + 4 * (l - 1)) + 2 ≡ k.offset + (descriptor_count k + 4 * (l - 1) + 2) = omega arith in
      let e₃ : k.offset + (descriptor_count k + 4 * (l - 1) + 2) + 1 ≡ k.offset + (descriptor_count k + 4 * (l - 1) + 2 + 1) = omega arith in
      rw (
        f,
        le-leb 1 l l₁,
        le-leb l k.code l₂,
        e₀,
        e₁,
        e₂,
        e₃,
        shifted (descriptor_count k + 4 * (l - 1)) (omega (arith, room)),
        shifted (descriptor_count k + 4 * (l - 1) + 1) (omega (arith, room)),
        shifted (descriptor_count k + 4 * (l - 1) + 2) (omega (arith, room)),
        shifted (descriptor_count k + 4 * (l - 1) + 2 + 1) (omega (arith, room)),
      )

pub instruction-there : (b : List ℕ) (c l : ℕ) → record_fits b (class_at b c) ≡ true → 1 ≤ l → l ≤ (class_at b c).code
    → decoded (code_from b ((class_at b c).offset + descriptor_count (class_at b c) + 4 * (l - 1))) ≡ ((program_of b).method c).instruction l
unfolding program_of method_at method_of instruction_at
instruction-there b c l f l₁ l₂ = ap decoded (code-there b (class_at b c) l f l₁ l₂)
