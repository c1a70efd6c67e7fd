-- What the C call that works the pairs out gives (document 02, Q-5): a number, and the lent bundle as it is left.
use Rattle.std.specs.Prelude.{List, ◌≡◌, ℕ, ◌+◌, ◌*◌}
use Rattle.verdicts.specs.declared.Verdict.{Verdict}
use Rattle.pairs.specs.Answer.{Answer}

-- the number in the low byte, the class in the next, the address in the two above; there is no why, since 9 is none of its refusals
abbrev pub packed_filled : Verdict → ℕ
packed_filled v = v.number + 256 * v.class + 65536 * v.address

-- r is the answer to the bundle b, packed, and x what it leaves in it
pub record FillGives (b : List ℕ) (r : ℕ) (x : List ℕ) : Type 0 where
  pub verdict : Verdict
  pub answer : Answer b verdict x
  pub number : r ≡ packed_filled verdict

-- two results of one bundle, with what they leave in it, are equal: `one-filling`
abbrev pub OneFilling : Type 0
OneFilling = (b : List ℕ) (r s : ℕ) (x y : List ℕ) → FillGives b r x → FillGives b s y → (r ≡ s) × (x ≡ y)
