-- Document 02, Q-12: what is written is accepted, and its instructions are the ones given.
use Rattle.std.specs.Prelude.{List, [], ◌∷◌, ◌≡◌, ◌≢◌, ℕ, ◌+◌, ◌*◌, ◌-◌, ◌≤◌, ◌<◌, length, take, drop}
use Rattle.ground.specs.Bytes.{at}
use Rattle.ground.specs.Lists.{In}
use Rattle.bundle.specs.declared.Class.{Class}
use Rattle.bundle.specs.Container.{descriptor_count, class_at, part_of, code_from, code_at}
use Rattle.bundle.specs.Program.{program_of}
use Rattle.verdicts.specs.declared.Verdict.{Verdict}
use Rattle.verdicts.specs.Verdicts.{verdict}
use Rattle.verifier.specs.Verdict.{verdict_of}
use Rattle.shape.specs.PairBytes.{place_of, depth_of}
use Rattle.laying.specs.Given.{Given, numbers_at}
use Rattle.laying.specs.Lengths.{entries, records_before}
use Rattle.laying.specs.Laid.{descriptors_of, instructions_of, kinds_of, depths_of}
use Rattle.gate.specs.Gate.{Gate}

-- class c's directory numbers as they are given, and where its record begins: behind those of the classes before it
unfoldable pub placed : List ℕ → ℕ → Class
placed d c =
    record {
      offset = records_before d c;
      args = (numbers_at d c).args;
      vars = (numbers_at d c).vars;
      limit = (numbers_at d c).limit;
      fields = (numbers_at d c).fields;
      code = (numbers_at d c).code;
    }

-- the kind of entry s of row l among a class's kinds; its class stands behind it
unfoldable pub kind_place : Class → ℕ → ℕ → ℕ
kind_place k l s = 2 * ((l - 1) * entries k + s)

-- of x, what class c is: its numbers, its descriptors, the bytes of its instructions, the kinds and depths of its rows
pub record OfClass (g : Given) (x : List ℕ) (c : ℕ) : Type 0 where
  pub numbers : class_at x c ≡ placed g.directory c
  pub descriptor : (i : ℕ) → i < descriptor_count (numbers_at g.directory c)
      → ((program_of x).method c).descriptor i ≡ at (descriptors_of g.directory g.descriptors c) i
  pub instruction : (l : ℕ) → 1 ≤ l → l ≤ (numbers_at g.directory c).code
      → code_at (class_at x c) (part_of x (class_at x c)) l ≡ code_from (instructions_of g.directory g.instructions c) (4 * (l - 1))
  pub kind : (l s : ℕ) → 1 ≤ l → l ≤ (numbers_at g.directory c).code → s < entries (numbers_at g.directory c)
      → at x (place_of x c l s) ≡ at (kinds_of g.directory g.kinds c) (kind_place (numbers_at g.directory c) l s)
  pub kind_class : (l s : ℕ) → 1 ≤ l → l ≤ (numbers_at g.directory c).code → s < entries (numbers_at g.directory c)
      → at x (place_of x c l s + 1) ≡ at (kinds_of g.directory g.kinds c) (kind_place (numbers_at g.directory c) l s + 1)
  pub depth : (l : ℕ) → 1 ≤ l → l ≤ (numbers_at g.directory c).code
      → depth_of x c l ≡ at (depths_of g.directory g.depths c) (l - 1)

-- x is accepted, and a bundle of what is given
pub record Woven (g : Given) (x : List ℕ) : Type 0 where
  pub accepted : (verdict_of x).number ≡ 0
  pub classes : (program_of x).classes ≡ g.classes
  pub exception : (program_of x).exception ≡ g.exception
  pub class : (c : ℕ) → c < g.classes → OfClass g x c

-- on success the first n bytes of the output are such a bundle, n its length; the verdict has the class count; all behind is as it came: `writes`
pub record Written (g : Given) (out : List ℕ) (v : Verdict) (n : ℕ) (out' : List ℕ) : Type 0 where
  pub woven : Woven g (take n out')
  pub long : length (take n out') ≡ n
  pub count : v ≡ verdict 0 g.classes 0
  pub behind : drop n out' ≡ drop n out

abbrev pub Writes : Type 0
Writes = (g : Given) (out : List ℕ) (v : Verdict) (n : ℕ) (out' : List ℕ) → Gate g out v n out' → v.number ≡ 0 → Written g out v n out'

-- a refusal writes nothing: `refuses`
abbrev pub Refuses : Type 0
Refuses = (g : Given) (out : List ℕ) (v : Verdict) (n : ℕ) (out' : List ℕ) → Gate g out v n out' → v.number ≢ 0 → (n ≡ 0) × (out' ≡ out)

-- the numbers that come out: 2, 5, 9, 10 and 23 never do
abbrev pub outcomes : List ℕ
outcomes = 0 ∷ 1 ∷ 3 ∷ 4 ∷ 6 ∷ 7 ∷ 8 ∷ 22 ∷ 24 ∷ 27 ∷ []

-- no other does: `few`
abbrev pub Few : Type 0
Few = (g : Given) (out : List ℕ) (v : Verdict) (n : ℕ) (out' : List ℕ) → Gate g out v n out' → In v.number outcomes
