-- Document 02, Q-12: what the gate gives, and what the output holds then.
use Rattle.std.specs.Prelude.{List, ◌++◌, ◌≡◌, true, false, ◌≢◌, ℕ, ◌+◌, ◌*◌, ◌≤◌, ◌<◌, leb, ltb, length, drop}
use Rattle.ground.specs.Chain.{refuse}
use Rattle.verdicts.specs.declared.Verdict.{Verdict}
use Rattle.verdicts.specs.Verdicts.{verdict, is_bad}
use Rattle.pairs.specs.Answer.{Answer}
use Rattle.laying.specs.Given.{Given}
use Rattle.laying.specs.Lengths.{whole}
use Rattle.laying.specs.Laid.{laid}
use Rattle.laying.specs.Laying.{measured}

-- first 27, when a slice's length isn't what the class count (1 to 8) and directory numbers ask; then, of the verifier's, 1, when the whole length is above 65,535, and 3, when the exception class is none of the bundle's. 0: the bundle can be laid
unfoldable pub refusal_of : Given → ℕ
refusal_of g =
    refuse (measured g) 27
    (refuse (leb (whole g.directory g.classes) 65535) 1
    (refuse (ltb g.exception g.classes) 3 0))

-- g is what is given, out the output as it came; the verdict, how many bytes are written, and the output as it is left
pub data Gate (g : Given) (out : List ℕ) : Verdict → ℕ → List ℕ → Type 0 where
  -- 27, 1 and 3 name no class; all refusals leave the output untouched
  unlaid : refusal_of g ≢ 0 → Gate g out (verdict (refusal_of g) 0 0) 0 out
  -- those of Q-5 and the verifier: the pairs of the bundle that is laid are filled (Q-5), which checks it
  refused : {v : Verdict} {x : List ℕ} → refusal_of g ≡ 0 → Answer (laid g) v x → is_bad v ≡ true → Gate g out v 0 out
  -- then 24 when the output is too short
  short : {v : Verdict} {x : List ℕ} → refusal_of g ≡ 0 → Answer (laid g) v x → is_bad v ≡ false → length out < length x → Gate g out (verdict 24 0 0) 0 out
  -- 0 and the class count: the finished bundle is written, and behind it the output is as it came
  written : {v : Verdict} {x : List ℕ} → refusal_of g ≡ 0 → Answer (laid g) v x → is_bad v ≡ false → length x ≤ length out
      → Gate g out v (length x) (x ++ drop (length x) out)

-- the verdict's number in the low byte, the class in the next, the address in the two above, the written length in the upper 32 bits
abbrev pub packed : Verdict → ℕ → ℕ
packed v n = v.number + 256 * v.class + 65536 * v.address + 4294967296 * n

-- the C call: r its number
pub record Gives (g : Given) (out : List ℕ) (r : ℕ) (out' : List ℕ) : Type 0 where
  pub verdict : Verdict
  pub written : ℕ
  pub gate : Gate g out verdict written out'
  pub number : r ≡ packed verdict written

-- two answers to one call, with what they leave in the output, are equal: `one-gate`, `one_number`
abbrev pub OneGate : Type 0
OneGate = (g : Given) (out : List ℕ) (v w : Verdict) (m n : ℕ) (x y : List ℕ) → Gate g out v m x → Gate g out w n y → (v ≡ w) × (m ≡ n) × (x ≡ y)

abbrev pub OneNumber : Type 0
OneNumber = (g : Given) (out : List ℕ) (r s : ℕ) (x y : List ℕ) → Gives g out r x → Gives g out s y → (r ≡ s) × (x ≡ y)
